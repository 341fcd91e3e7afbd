use Rattle.braid_server.proofs.Wholes.{worn_late}
use Rattle.braid_server.proofs.laws.worn_late.Goals as goal

pub returns : goal.returns
returns g c = record { law = worn_late g.D.Door.doorway g.L.Bell.ringing }
