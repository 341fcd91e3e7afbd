use Rattle.braid_hall.proofs.Kept.{one_turn}
use Rattle.braid_hall.proofs.laws.one_turn_at_a_time.Goals as goal

pub returns : goal.returns
returns g c = record { law = one_turn g.B.Annals.entries g.B.Annals.by }
