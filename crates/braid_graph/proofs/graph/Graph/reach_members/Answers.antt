use Rattle.braid_graph.proofs.Fronts.{reached_next}
use Rattle.braid_graph.proofs.graph.Graph.reach_members.Goals as goal

pub loop-i-preserved : goal.loop-i-preserved
loop-i-preserved c =
    let at = c.number_of.ensures.number in
    reached_next c.args.self.now c.args.of.now c.loop-i.i c.number_of.result at.0 c.loop-i.ends c.reach.new.ends c.number_of.ensures.valid c.loop-i.invariant at.1 at.2 c.reach.ensures.ends c.reach.ensures.reached
