use Rattle.braid_hall.proofs.Kept.{end_of_tickets}
use Rattle.braid_hall.proofs.laws.tickets_end.Goals as goal

pub returns : goal.returns
returns g c = record { law = end_of_tickets g.B.Annals.entries g.B.Annals.by }
