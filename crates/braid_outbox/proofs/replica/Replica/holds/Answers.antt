use Rattle.braid_outbox.proofs.Found.{some_missing, no_missing}
use Rattle.braid_outbox.proofs.replica.Replica.holds.Goals as goal

pub returns-in-Some : goal.returns-in-Some
returns-in-Some c = record { holds = some_missing _ _ _ c.in-Some.ensures.least }

pub returns-in-None : goal.returns-in-None
returns-in-None c = record { holds = no_missing _ _ c.in-None.ensures.least }
