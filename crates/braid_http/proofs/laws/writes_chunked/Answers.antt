use Rattle.braid_http.proofs.WrittenLaws.{writes_chunked}
use Rattle.braid_http.proofs.laws.writes_chunked.Goals as goal

pub returns : goal.returns
returns c = record { law = writes_chunked }
