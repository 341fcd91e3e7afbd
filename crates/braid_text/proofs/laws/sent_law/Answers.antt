use Rattle.braid_text.proofs.Public.{sent_exact, sent_more}
use Rattle.braid_text.proofs.laws.sent_law.Goals as goal

pub returns : goal.returns
returns c = record { exact = sent_exact; more = sent_more }
