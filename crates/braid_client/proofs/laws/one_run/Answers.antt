use Rattle.braid_client.proofs.OneRun.{one_run}
use Rattle.braid_client.proofs.laws.one_run.Goals as goal

pub returns : goal.returns
returns c = record { law = one_run }
