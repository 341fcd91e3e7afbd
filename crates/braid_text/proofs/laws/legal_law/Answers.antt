use Rattle.braid_text.proofs.Public.{legal_more, may_follow}
use Rattle.braid_text.proofs.laws.legal_law.Goals as goal

pub returns : goal.returns
returns c = record { none = tt; more = legal_more; may = may_follow }
