use Rattle.std.proofs.Common.{ℕ, ◌<◌, ◌≤◌}
use Rattle.braid_ids.specs.MarkSets.{IsMarked}
use Rattle.braid_store.proofs.cursor.first_unmarked.Given as goal

abbrev pub invariant-loop-n : goal.invariant-loop-n
invariant-loop-n l = (k : ℕ) → l.fn.start ≤ k → k < l.n → IsMarked l.marks k
