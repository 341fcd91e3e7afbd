use Rattle.std.proofs.Common.{arith}
use Rattle.braid_graph.proofs.Widths.{width_more, heads_fewer, frontier_few}
use Rattle.braid_graph.proofs.graph.Graph.width_after.Goals as goal

pub overflow_sub-result : goal.overflow_sub-result
overflow_sub-result c = omega (arith, c.heads_among-heads.ensures.count, c.width.ensures.width, heads_fewer c.args.self.now c.args.parents.now c.heads_among-heads.ensures.history c.heads_among-heads.ensures.rising c.requires.held)

pub overflow_add-result : goal.overflow_add-result
overflow_add-result c = omega (arith, c.width.ensures.width, frontier_few c.args.self.now, c.heads_among-heads.ensures.few)

pub returns : goal.returns
returns c = record { width = λ id new. omega (arith, c.heads_among-heads.ensures.count, c.width.ensures.width, heads_fewer c.args.self.now c.args.parents.now c.heads_among-heads.ensures.history c.heads_among-heads.ensures.rising c.requires.held, width_more c.args.self.now c.args.parents.now c.heads_among-heads.ensures.history c.heads_among-heads.ensures.rising c.requires.held id new) }
