use Rattle.std.proofs.Common.{ℕ, ◌<◌, ◌≤◌}
use Rattle.braid_tree.specs.Inside.{rows_in, IsPlaceOf}
use Rattle.braid_tree.proofs.row.index_from.Given as goal

abbrev pub invariant-loop-i : goal.invariant-loop-i
invariant-loop-i l = (k : ℕ) → l.start ≤ k → k < l.i → IsPlaceOf (rows_in l.rows) l.at k → ⊥
