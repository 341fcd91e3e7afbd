use Rattle.std.proofs.Common.{ℕ, ◌<◌, get_or}
use Rattle.braid_ids.specs.Identifiers.{IsPrintable}
use Rattle.braid_ids.proofs.id.Id.read.Given as goal

-- the bytes passed are printable
abbrev pub invariant-loop-at : goal.invariant-loop-at
invariant-loop-at l = (k : ℕ) → k < l.at → IsPrintable (get_or l.bytes k 0)
