use Rattle.braid_hall.proofs.Kept.{has_pass}
use Rattle.braid_hall.proofs.laws.each_entry_has_a_pass.Goals as goal

pub returns : goal.returns
returns g c = record { law = has_pass g.B.Annals.entries g.B.Annals.by }
