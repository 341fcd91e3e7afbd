use Rattle.braid_graph.proofs.Orders.{same_answers}
use Rattle.braid_graph.proofs.laws.order_does_not_matter.Goals as goal

pub returns : goal.returns
returns c = record { law = same_answers }
