use Rattle.braid_outbox.proofs.ReadNow.{text_now}
use Rattle.braid_outbox.proofs.replica.Replica.body.Goals as goal

pub returns-in-Ok : goal.returns-in-Ok
returns-in-Ok c = record { ok = text_now _ _ _ _ _ c.self.invariant.kept _ c.self.view_is _ _ c.in_ok-frontier.ensures.ok c.in-Ok.ensures.ok }
