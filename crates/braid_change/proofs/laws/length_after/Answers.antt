use Rattle.braid_change.proofs.Pieces.{splice_len}
use Rattle.braid_change.proofs.laws.length_after.Goals as goal

pub returns : goal.returns
returns c = record { law = splice_len }
