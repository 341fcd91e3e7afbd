use Rattle.std.proofs.Common.{◌≡◌, ◌++◌, ◌-◌, ◌≤◌, drop, map}
use Rattle.braid_tree.specs.Seen.{seen_rows, place_in}
use Rattle.braid_tree.specs.Inside.{rows_in, deletions_in}
use Rattle.braid_tree.proofs.Windows.{window}
use Rattle.braid_tree.proofs.visible.visible_places.Given as goal

-- the places so far and those that are left to take from the rows that are left are all
abbrev pub invariant-loop-row : goal.invariant-loop-row
invariant-loop-row l = record {
  few : l.number ≤ l.row-index;
  all : l.places.items ++ window (l.from - l.number) (l.to - l.number) (map place_in (seen_rows l.marks (deletions_in l.deletions) (rows_in (drop l.row-index l.rows))))
      ≡ window l.from l.to (map place_in (seen_rows l.marks (deletions_in l.deletions) (rows_in l.rows)));
}
