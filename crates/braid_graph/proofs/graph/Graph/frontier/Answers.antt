use Rattle.braid_graph.proofs.Collected.{frontier_of_ids}
use Rattle.braid_graph.proofs.graph.Graph.frontier.Goals as goal

pub returns : goal.returns
returns c = record { ok = frontier_of_ids c.args.self.now c.in_ok-head_ids.field-0.items c.of.result c.in_ok-head_ids.ensures.ok c.of.ensures.rising c.of.ensures.same }
