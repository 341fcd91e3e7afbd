use Rattle.std.proofs.Common.{◌≡◌, take}
use Rattle.braid_change.proofs.update.same_parents.Given as goal

abbrev pub invariant-loop-n : goal.invariant-loop-n
invariant-loop-n l = take l.n l.parents ≡ take l.n l.others
