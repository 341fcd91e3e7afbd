use Rattle.braid_rebase.proofs.Stands.{one_seen}
use Rattle.braid_rebase.proofs.laws.one_view.Goals as goal

pub returns : goal.returns
returns c = record { law = one_seen }
