use Rattle.std.proofs.Common.{◌≡◌, ◌++◌, drop, map}
use Rattle.braid_tree.specs.Seen.{seen_rows, char_in}
use Rattle.braid_tree.specs.Inside.{rows_in, deletions_in}
use Rattle.braid_tree.proofs.visible.visible_text.Given as goal

-- the text so far and that of the rows that are left are all of it
abbrev pub invariant-loop-row : goal.invariant-loop-row
invariant-loop-row l =
    l.text.items ++ map char_in (seen_rows l.marks (deletions_in l.deletions) (rows_in (drop l.row-index l.rows)))
    ≡ map char_in (seen_rows l.marks (deletions_in l.deletions) (rows_in l.rows))
