use Rattle.std.proofs.Common.{◌≡◌, vec_len}
use Rattle.braid_change.proofs.tests.frontier_of.Given as goal

abbrev pub invariant-loop-name : goal.invariant-loop-name
invariant-loop-name l = vec_len l.ids ≡ l.name-index
