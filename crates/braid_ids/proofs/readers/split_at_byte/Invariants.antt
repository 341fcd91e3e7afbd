use Rattle.std.proofs.Common.{take}
use Rattle.braid_ids.specs.Lists.{Lacks}
use Rattle.braid_ids.proofs.readers.split_at_byte.Given as goal

abbrev pub invariant-loop-at : goal.invariant-loop-at
invariant-loop-at l = Lacks l.byte (take l.at l.bytes)
