use Rattle.braid_client.proofs.Completed.{completes, follow_is_free}
use Rattle.braid_client.proofs.laws.completes.Goals as goal

pub returns-clause-law : goal.returns-clause-law
returns-clause-law c = completes

pub returns-clause-follow : goal.returns-clause-follow
returns-clause-follow c = follow_is_free
