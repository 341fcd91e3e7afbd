use Rattle.braid_ids.proofs.Spelled.{spelling_same}
use Rattle.braid_ids.proofs.laws.one_spelling.Goals as goal

pub returns : goal.returns
returns c = record { law = spelling_same }
