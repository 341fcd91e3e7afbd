use Rattle.std.proofs.Common.{◌≡◌, vec_len}
use Rattle.braid_change.proofs.tests.change_of.Given as goal

abbrev pub invariant-loop-start : goal.invariant-loop-start
invariant-loop-start l = vec_len l.patches ≡ l.start-index
