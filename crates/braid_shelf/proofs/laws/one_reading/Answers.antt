use Rattle.braid_shelf.proofs.Decided.{one_reading}
use Rattle.braid_shelf.proofs.laws.one_reading.Goals as goal

pub returns : goal.returns
returns c = record { law = one_reading }
