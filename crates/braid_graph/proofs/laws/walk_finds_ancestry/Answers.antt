use Rattle.braid_graph.proofs.Walk.{walk_least}
use Rattle.braid_graph.proofs.Orders.{walk_members}
use Rattle.braid_graph.proofs.laws.walk_finds_ancestry.Goals as goal

pub returns : goal.returns
returns c = record { least = walk_least; members = walk_members }
