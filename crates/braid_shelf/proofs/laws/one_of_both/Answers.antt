use Rattle.braid_shelf.proofs.Decided.{decided}
use Rattle.braid_shelf.proofs.laws.one_of_both.Goals as goal

pub returns : goal.returns
returns c = record { law = decided }
