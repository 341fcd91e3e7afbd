use Rattle.braid_change.proofs.Pieces.{body_spliced}
use Rattle.braid_change.proofs.laws.body_gives_itself.Goals as goal

pub returns : goal.returns
returns c = record { law = body_spliced }
