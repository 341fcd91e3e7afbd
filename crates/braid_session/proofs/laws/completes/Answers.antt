use Rattle.braid_session.proofs.Wholes.{completes}
use Rattle.braid_session.proofs.laws.completes.Goals as goal

pub returns : goal.returns
returns c = record { law = completes }
