use Rattle.braid_http.proofs.Sizes.{few_bytes}
use Rattle.braid_http.proofs.laws.few_bytes.Goals as goal

pub returns : goal.returns
returns c = record { law = few_bytes }
