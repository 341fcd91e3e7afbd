use Rattle.braid_http.proofs.BodyLaws.{one_chunked}
use Rattle.braid_http.proofs.laws.one_chunked.Goals as goal

pub returns : goal.returns
returns c = record { law = one_chunked }
