use Rattle.std.proofs.Common.{take}
use Rattle.braid_change.specs.Digests.{HasAdded}
use Rattle.braid_text.specs.Digested.{by_identifier}
use Rattle.braid_text.proofs.digesting.digest.Given as goal

-- the updates passed are added
abbrev pub invariant-loop-update : goal.invariant-loop-update
invariant-loop-update l = HasAdded l.digester (take l.update-index (by_identifier l.updates))
