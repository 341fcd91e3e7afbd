use Rattle.std.proofs.Common.{length}
use Rattle.braid_grammar.proofs.ReadLines.{IsGapBefore}
use Rattle.braid_state.proofs.tail.after_gap.Given as goal

abbrev pub invariant-loop-next : goal.invariant-loop-next
invariant-loop-next l = IsGapBefore l.bytes l.rest

abbrev pub decreases-loop-next : goal.decreases-loop-next
decreases-loop-next l = length l.rest
