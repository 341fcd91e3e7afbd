use Rattle.std.proofs.Common.{length, ◌-◌, ℕ, ◌<◌, ◌≤◌}
use Rattle.braid_tree.specs.Inside.{stamps_in, rows_in, IsPassed}
use Rattle.braid_tree.proofs.row.landing.Given as goal

abbrev pub invariant-loop-index : goal.invariant-loop-index
invariant-loop-index l = record {
  from : l.start ≤ l.index;
  within : l.index ≤ length l.rows;
  passed : (k : ℕ) → l.start ≤ k → k < l.index → IsPassed (stamps_in l.versions) (rows_in l.rows) l.first k;
}

abbrev pub decreases-loop-index : goal.decreases-loop-index
decreases-loop-index l = length l.rows - l.index
