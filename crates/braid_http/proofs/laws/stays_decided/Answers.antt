use Rattle.braid_http.proofs.Sizes.{stays_decided}
use Rattle.braid_http.proofs.laws.stays_decided.Goals as goal

pub returns : goal.returns
returns c = record { law = stays_decided }
