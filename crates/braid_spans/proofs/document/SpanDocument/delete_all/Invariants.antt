use Rattle.std.proofs.Common.{◌≡◌, ◌+◌, ◌-◌, ◌*◌, ◌≤◌, ◌++◌, length, map, take}
use Rattle.std.specs.List.Sorted.{IsPermutation}
use Rattle.braid_tree.specs.Rows.{Spends}
use Rattle.braid_spans.specs.Spans.{spelled, rows_of, deletions_of, deletion_by}
use Rattle.braid_spans.proofs.document.SpanDocument.delete_all.Given as goal

-- the first of the places are deleted
abbrev pub invariant-loop-done : goal.invariant-loop-done
invariant-loop-done l = record {
  within : l.done ≤ length l.places;
  stamps : l.self.stamps ≡ l.fn.self.stamps;
  rows : rows_of (spelled l.self.runs) ≡ rows_of (spelled l.fn.self.runs);
  deletions : IsPermutation (deletions_of (spelled l.fn.self.runs) ++ map (deletion_by (length l.fn.self.stamps - 1)) (take l.done l.places)) (deletions_of (spelled l.self.runs));
  room : Spends l.fn.self.room l.self.room 0 0 l.done;
  runs : length l.self.runs ≤ length l.fn.self.runs + 2 * l.done;
}

abbrev pub decreases-loop-done : goal.decreases-loop-done
decreases-loop-done l = length l.places - l.done
