use Rattle.braid_text.proofs.Public.{shared_seen}
use Rattle.braid_text.proofs.laws.shared_text.Goals as goal

pub returns : goal.returns
returns c = record { law = shared_seen }
