use Rattle.braid_http.proofs.ChunkLaws.{one_body}
use Rattle.braid_http.proofs.laws.one_body.Goals as goal

pub returns : goal.returns
returns c = record { law = one_body }
