use Rattle.braid_outbox.proofs.ReadNow.{if_ok, digest_now}
use Rattle.braid_outbox.proofs.replica.Replica.digest.Goals as goal

pub returns : goal.returns
returns c = record { ok = if_ok _ _ c.digest.result (digest_now _ _ _ _ _ c.self.invariant.kept _ c.self.view_is) c.digest.ensures.ok }
