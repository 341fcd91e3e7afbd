use Rattle.braid_shelf.proofs.Decided.{not_both}
use Rattle.braid_shelf.proofs.laws.not_both.Goals as goal

pub returns : goal.returns
returns c = record { law = not_both }
