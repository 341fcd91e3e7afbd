use Rattle.braid_shelf.proofs.Decided.{one_fault}
use Rattle.braid_shelf.proofs.laws.one_fault.Goals as goal

pub returns : goal.returns
returns c = record { law = one_fault }
