use Rattle.braid_check.proofs.Order.{order_free}
use Rattle.braid_check.proofs.laws.order_does_not_matter.Goals as goal

pub returns : goal.returns
returns c = record { law = order_free }
