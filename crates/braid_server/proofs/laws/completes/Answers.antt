use Rattle.braid_server.proofs.Wholes.{completes}
use Rattle.braid_server.proofs.laws.completes.Goals as goal

pub returns : goal.returns
returns g c = record { law = completes g.D.Door.doorway g.L.Bell.ringing }
