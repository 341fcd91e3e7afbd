use Rattle.braid_text.proofs.Ties.{legal_graph, ancestors_walk}
use Rattle.braid_text.proofs.Public.{ancestors_exact, levels_at, frontier_all}
use Rattle.braid_text.proofs.laws.graph_law.Goals as goal

pub returns : goal.returns
returns c = record { history = legal_graph; walk = ancestors_walk; ancestry = ancestors_exact; level = levels_at; frontier = frontier_all }
