use Rattle.std.proofs.Common.{◌≡◌, length}
use Rattle.braid_spans.proofs.tests.marks_of.Given as goal

abbrev pub invariant-loop-n : goal.invariant-loop-n
invariant-loop-n l = length l.marks ≡ length l.digits
