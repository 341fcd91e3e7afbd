use Rattle.braid_grammar.proofs.ReadLines.{gap_begins, gap_goes_on, gap_shorter, gap_ends}
use Rattle.braid_state.proofs.tail.after_gap.Goals as goal

pub loop-next-init : goal.loop-next-init
loop-next-init c = gap_begins _

pub loop-next-smaller : goal.loop-next-smaller
loop-next-smaller c = let e = c.in-Some.ensures.found in gap_shorter e.0 c.loop-next.rest.now c.in-Some.next.now e.1 e.2

pub loop-next-preserved : goal.loop-next-preserved
loop-next-preserved c = let e = c.in-Some.ensures.found in gap_goes_on c.args.bytes.now c.loop-next.rest.now e.0 c.in-Some.next.now c.loop-next.invariant e.1 e.2

pub returns : goal.returns
returns c = record { behind = gap_ends c.args.bytes.now c.loop-next.rest.now c.loop-next.invariant c.in_default.ensures.found }
