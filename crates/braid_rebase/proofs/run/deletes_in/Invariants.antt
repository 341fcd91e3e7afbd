use Rattle.std.proofs.Common.{◌≡◌, ◌+◌, ◌++◌, ◌≤◌, ℕ, drop, length}
use Rattle.braid_change.specs.Splices.{AreRanges}
use Rattle.braid_rebase.specs.Pieces.{moved}
use Rattle.braid_rebase.specs.Resolved.{places_at}
use Rattle.braid_rebase.proofs.run.deletes_in.Given as goal

-- the places so far and those of the ranges that are left are all
abbrev pub invariant-loop-range : goal.invariant-loop-range
invariant-loop-range l = record {
  left : (low : ℕ) × (l.first ≤ low) × AreRanges low (l.first + length l.places) (drop l.range-index l.ranges);
  all : l.deletes.items ++ places_at l.places (moved l.first (drop l.range-index l.ranges)) ≡ places_at l.places (moved l.first l.ranges);
}
