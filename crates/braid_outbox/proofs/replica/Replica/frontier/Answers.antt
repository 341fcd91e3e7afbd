use Rattle.braid_outbox.proofs.ReadNow.{if_ok, frontier_now}
use Rattle.braid_outbox.proofs.replica.Replica.frontier.Goals as goal

pub returns : goal.returns
returns c = record { ok = if_ok _ _ c.frontier.result (frontier_now _ _ _ _ _ c.self.invariant.kept _ c.self.view_is) c.frontier.ensures.ok }
