use Rattle.braid_shelf.proofs.Listed.{ids_listed}
use Rattle.braid_shelf.proofs.laws.identifiers_are_listed.Goals as goal

pub returns : goal.returns
returns c = record { law = ids_listed }
