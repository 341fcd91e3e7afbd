use Rattle.std.proofs.Common.{◌≡◌, length}
use Rattle.braid_spans.proofs.tests.type_inside.Given as goal

abbrev pub invariant-loop-n : goal.invariant-loop-n
invariant-loop-n g l = length (g.D.Document.stamps l.doc) ≡ l.n
