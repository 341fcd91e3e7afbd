use Rattle.std.proofs.Common.{◌≡◌, length}
use Rattle.braid_tree.specs.Rows.{Stamp}
use Rattle.braid_spans.proofs.tests.write_both.Given as goal

abbrev pub invariant-loop-n : goal.invariant-loop-n
invariant-loop-n l = record {
  rows : length l.rows.stamps ≡ l.n;
  runs : length l.runs.stamps ≡ l.n;
}
