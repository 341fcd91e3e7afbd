use Rattle.std.proofs.Common.{◌≡◌, vec_len}
use Rattle.braid_change.proofs.tests.empty_patches.Given as goal

abbrev pub invariant-loop-at : goal.invariant-loop-at
invariant-loop-at l = vec_len l.patches ≡ l.at
