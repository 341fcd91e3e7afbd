use Rattle.braid_outbox.proofs.Found.{first_yes, first_not}
use Rattle.braid_outbox.proofs.replica.Replica.is_next.Goals as goal

pub returns-in-Some : goal.returns-in-Some
returns-in-Some c = record { next = first_yes _ _ _ _ c.in-Some.ensures.value c.same.ensures.same }

pub returns-in-None : goal.returns-in-None
returns-in-None c = record { next = first_not _ _ c.in-None.ensures.value }
