use Rattle.braid_drill.proofs.Ends.{refuses}
use Rattle.braid_drill.proofs.laws.refuses.Goals as goal

pub returns : goal.returns
returns c = record { law = refuses }
