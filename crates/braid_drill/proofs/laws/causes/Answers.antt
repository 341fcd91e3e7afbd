use Rattle.braid_drill.proofs.Ends.{causes}
use Rattle.braid_drill.proofs.laws.causes.Goals as goal

pub returns : goal.returns
returns c = record { law = causes }
