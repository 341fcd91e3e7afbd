use Rattle.braid_change.proofs.Pieces.{undefined_past}
use Rattle.braid_change.proofs.laws.undefined_past_the_end.Goals as goal

pub returns : goal.returns
returns c = record { law = undefined_past }
