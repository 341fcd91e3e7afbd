use Rattle.braid_http.proofs.ReplyDecisions.{reply_stays_decided}
use Rattle.braid_http.proofs.laws.reply_stays_decided.Goals as goal

pub returns : goal.returns
returns c = record { law = reply_stays_decided }
