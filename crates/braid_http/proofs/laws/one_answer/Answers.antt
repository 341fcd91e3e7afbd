use Rattle.braid_http.proofs.Decisions.{one_answer}
use Rattle.braid_http.proofs.laws.one_answer.Goals as goal

pub returns : goal.returns
returns c = record { law = one_answer }
