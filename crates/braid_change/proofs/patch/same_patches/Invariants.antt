use Rattle.std.proofs.Common.{◌≡◌, take}
use Rattle.braid_change.proofs.patch.same_patches.Given as goal

abbrev pub invariant-loop-n : goal.invariant-loop-n
invariant-loop-n l = take l.n l.patches ≡ take l.n l.others
