use Rattle.braid_text.proofs.Public.{same_text_at}
use Rattle.braid_text.proofs.laws.same_text.Goals as goal

pub returns : goal.returns
returns c = record { law = same_text_at }
