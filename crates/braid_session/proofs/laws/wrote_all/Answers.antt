use Rattle.braid_session.proofs.Wholes.{wrote_all}
use Rattle.braid_session.proofs.Fronts.{wrote_front}
use Rattle.braid_session.proofs.laws.wrote_all.Goals as goal

pub returns : goal.returns
returns c = record { whole = wrote_all; front = wrote_front }
