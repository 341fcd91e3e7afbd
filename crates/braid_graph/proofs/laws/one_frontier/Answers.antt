use Rattle.braid_graph.proofs.Frontiers.{frontier_is, one_frontier}
use Rattle.braid_graph.proofs.laws.one_frontier.Goals as goal

pub returns : goal.returns
returns c = record { listed = frontier_is; one = one_frontier }
