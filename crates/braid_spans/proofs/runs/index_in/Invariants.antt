use Rattle.std.proofs.Common.{ℕ, ◌<◌}
use Rattle.braid_spans.specs.Kept.{IsHeldAt}
use Rattle.braid_spans.proofs.runs.index_in.Given as goal

abbrev pub invariant-loop-i : goal.invariant-loop-i
invariant-loop-i l = (k : ℕ) → k < l.i → IsHeldAt l.runs l.at k → ⊥
