use Rattle.braid_sync.proofs.LawFollow.{one_follow}
use Rattle.braid_sync.proofs.laws.one_follow.Goals as goal

pub returns : goal.returns
returns c = record { law = one_follow }
