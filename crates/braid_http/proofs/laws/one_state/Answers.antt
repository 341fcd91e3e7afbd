use Rattle.braid_http.proofs.BodyLaws.{has_one_state}
use Rattle.braid_http.proofs.laws.one_state.Goals as goal

pub returns : goal.returns
returns c = record { law = has_one_state }
