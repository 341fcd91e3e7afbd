use Rattle.braid_graph.specs.Ancestries.{named, parent}
use Rattle.braid_graph.proofs.Orders.{in_closed}
use Rattle.braid_graph.proofs.laws.ancestry_is_least.Goals as goal

pub returns : goal.returns
returns c = record { names = λ es F v c. named v c; parents = λ es F e v c a d. parent e v c a d; least = in_closed }
