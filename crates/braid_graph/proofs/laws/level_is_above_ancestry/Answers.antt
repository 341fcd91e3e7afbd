use Rattle.braid_graph.proofs.Levels.{level_entry}
use Rattle.braid_graph.proofs.Orders.{above_ancestry}
use Rattle.braid_graph.proofs.laws.level_is_above_ancestry.Goals as goal

pub returns : goal.returns
returns c = record { parents = level_entry; ancestry = above_ancestry }
