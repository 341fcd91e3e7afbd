use Rattle.std.proofs.Common.{◌≡◌, ℕ, length, take}
use Rattle.braid_spans.specs.Kept.{IsHeldAt}
use Rattle.braid_spans.specs.Blocks.{flat}
use Rattle.braid_spans.proofs.runs.find_in.Given as goal

-- no block passed holds the element
abbrev pub invariant-loop-block : goal.invariant-loop-block
invariant-loop-block l = record {
  before : l.before ≡ length (flat (take l.block-index l.blocks));
  none : (k : ℕ) → IsHeldAt (flat (take l.block-index l.blocks)) l.at k → ⊥;
}
