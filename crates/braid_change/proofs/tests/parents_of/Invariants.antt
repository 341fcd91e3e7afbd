use Rattle.std.proofs.Common.{◌≡◌, vec_len}
use Rattle.braid_change.proofs.tests.parents_of.Given as goal

abbrev pub invariant-loop-at : goal.invariant-loop-at
invariant-loop-at l = vec_len l.ids ≡ l.at
