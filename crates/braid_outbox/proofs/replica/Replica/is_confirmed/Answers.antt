use Rattle.braid_outbox.proofs.Found.{flag_says, not_confirmed}
use Rattle.braid_outbox.proofs.replica.Replica.is_confirmed.Goals as goal

pub returns-in-Some : goal.returns-in-Some
returns-in-Some c = record { confirmed = flag_says _ _ _ _ _ c.self.invariant.kept _ c.self.view_is _ _ c.in-Some.ensures.found _ c.index.ensures }

pub returns-in-None : goal.returns-in-None
returns-in-None c = record { confirmed = not_confirmed _ _ _ _ _ c.self.invariant.kept _ c.self.view_is _ c.in-None.ensures.none }
