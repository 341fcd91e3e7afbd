use Rattle.braid_outbox.proofs.Calls.{room_is}
use Rattle.braid_outbox.proofs.replica.Replica.room.Goals as goal

pub returns : goal.returns
returns c = record { room = room_is _ _ _ _ _ c.self.invariant.kept _ c.self.view_is _ _ _ _ c.entries.ensures.count c.elements.ensures.count c.deletions.ensures.count }
