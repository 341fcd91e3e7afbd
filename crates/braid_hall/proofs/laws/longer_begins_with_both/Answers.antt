use Rattle.braid_hall.proofs.Kept.{longer_of_both}
use Rattle.braid_hall.proofs.laws.longer_begins_with_both.Goals as goal

pub returns : goal.returns
returns g c = record { law = longer_of_both }
