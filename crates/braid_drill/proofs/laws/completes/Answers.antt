use Rattle.braid_drill.proofs.Ends.{completes}
use Rattle.braid_drill.proofs.laws.completes.Goals as goal

pub returns : goal.returns
returns c = record { law = completes }
