use Rattle.braid_graph.proofs.Kept.{numbers_next}
use Rattle.braid_graph.proofs.graph.Graph.links_to.Goals as goal

pub loop-i-preserved : goal.loop-i-preserved
loop-i-preserved c =
    let at = c.number_of.ensures.number in
    rw c.in_ok-push.ensures.ok (numbers_next c.args.self.now c.args.parents.now c.loop-i.numbers.items c.loop-i.i at.0 c.number_of.result c.loop-i.invariant at.1 at.2)
