use Rattle.std.proofs.Common.{◌≡◌, drop, slice_get}
use Rattle.std.specs.Option.{option_map}
use Rattle.braid_tree.specs.Seen.{seen_rows, place_in}
use Rattle.braid_tree.specs.Inside.{rows_in, deletions_in}
use Rattle.braid_tree.proofs.visible.nth_visible.Given as goal

-- what is left to find in the rows that are left is what was sought in all
abbrev pub invariant-loop-row : goal.invariant-loop-row
invariant-loop-row l =
    option_map place_in (slice_get (seen_rows l.marks (deletions_in l.deletions) (rows_in (drop l.row-index l.rows))) l.left)
    ≡ option_map place_in (slice_get (seen_rows l.marks (deletions_in l.deletions) (rows_in l.rows)) l.fn.n)
