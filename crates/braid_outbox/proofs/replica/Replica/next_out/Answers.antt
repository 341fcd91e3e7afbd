use Rattle.braid_outbox.proofs.Calls.{next_is}
use Rattle.braid_outbox.proofs.replica.Replica.next_out.Goals as goal

pub returns : goal.returns
returns c = record { value = next_is _ _ _ _ _ c.self.invariant.kept _ c.self.view_is _ c.entry.ensures.value }
