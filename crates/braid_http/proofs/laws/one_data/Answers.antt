use Rattle.braid_http.proofs.ChunkLaws.{one_data}
use Rattle.braid_http.proofs.laws.one_data.Goals as goal

pub returns : goal.returns
returns c = record { law = one_data }
