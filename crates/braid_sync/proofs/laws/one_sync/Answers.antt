use Rattle.braid_sync.proofs.LawSync.{one_sync}
use Rattle.braid_sync.proofs.laws.one_sync.Goals as goal

pub returns : goal.returns
returns c = record { law = one_sync }
