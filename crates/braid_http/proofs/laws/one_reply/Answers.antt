use Rattle.braid_http.proofs.ReplyDecisions.{one_reply}
use Rattle.braid_http.proofs.laws.one_reply.Goals as goal

pub returns : goal.returns
returns c = record { law = one_reply }
