use Rattle.braid_text.proofs.Alike.{are_alike}
use Rattle.braid_text.proofs.laws.order_does_not_matter.Goals as goal

pub returns : goal.returns
returns c = record { law = are_alike }
