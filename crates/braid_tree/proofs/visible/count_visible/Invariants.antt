use Rattle.std.proofs.Common.{◌≡◌, ◌+◌, ◌≤◌, drop, length}
use Rattle.braid_tree.specs.Seen.{seen_rows}
use Rattle.braid_tree.specs.Inside.{rows_in, deletions_in}
use Rattle.braid_tree.proofs.visible.count_visible.Given as goal

-- those counted and those seen in the rows that are left are all
abbrev pub invariant-loop-row : goal.invariant-loop-row
invariant-loop-row l = record {
  few : l.count ≤ l.row-index;
  all : l.count + length (seen_rows l.marks (deletions_in l.deletions) (rows_in (drop l.row-index l.rows))) ≡ length (seen_rows l.marks (deletions_in l.deletions) (rows_in l.rows));
}
