use Rattle.braid_http.proofs.CutLaws.{one_cut}
use Rattle.braid_http.proofs.laws.one_cut.Goals as goal

pub returns : goal.returns
returns c = record { law = one_cut }
