use Rattle.std.proofs.Common.{arith, ◌∙◌}
use Rattle.braid_graph.proofs.Kept.{greatest_next, max_is}
use Rattle.braid_graph.proofs.graph.Graph.level_above.Goals as goal

pub loop-i-preserved : goal.loop-i-preserved
loop-i-preserved c =
    let at = c.number_of-n.ensures.number in
    let most = max_is c.max-greatest.result c.loop-i.greatest c.level.result c.max-greatest.ensures in
    record {
      small = omega (arith, most, c.level.ensures.small, c.number_of-n.ensures.few);
      greatest = most ∙ greatest_next c.args.self.now c.args.parents.now c.loop-i.i at.0 c.number_of-n.result c.loop-i.greatest c.level.result c.loop-i.invariant.greatest at.1 at.2 c.level.ensures.level;
    }
