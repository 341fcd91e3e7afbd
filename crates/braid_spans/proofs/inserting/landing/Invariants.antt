use Rattle.std.proofs.Common.{length, ◌-◌, ℕ, ◌<◌, ◌≤◌}
use Rattle.braid_spans.specs.Kept.{stamps_in, IsRunPassed}
use Rattle.braid_spans.proofs.inserting.landing.Given as goal

abbrev pub invariant-loop-index : goal.invariant-loop-index
invariant-loop-index l = record {
  from : l.start ≤ l.index;
  within : l.index ≤ length l.runs.list;
  passed : (i : ℕ) → l.start ≤ i → i < l.index → IsRunPassed (stamps_in l.versions) l.runs.list l.first i;
}

abbrev pub decreases-loop-index : goal.decreases-loop-index
decreases-loop-index l = length l.runs.list - l.index
