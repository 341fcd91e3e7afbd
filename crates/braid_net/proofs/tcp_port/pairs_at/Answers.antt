use Rattle.std.proofs.Common.{rules}
use Rattle.std.proofs.lemmas.List.Elements.{All-same, All-push}
use Rattle.braid_io.specs.Doors.{IsNewPair}
use Rattle.braid_net.specs.Told.{untold_doorway, untold_ringing}
use Rattle.braid_net.specs.declared.tcp_door.TcpDoor.{TcpDoor}
use Rattle.braid_net.specs.declared.ring_bell.RingBell.{RingBell}
use Rattle.braid_net.proofs.tcp_port.pairs_at.Goals as goal

-- A pair of a door and a bell that had no fault, no wait and no ring.
abbrev IsFresh : (R : Type 0) → TcpDoor × RingBell R → Type 0
IsFresh R p = IsNewPair (untold_doorway p.0.faults p.0.link_read_faults p.0.link_write_faults) (untold_ringing p.1.agains p.1.rings)

pub loop-worker-preserved : goal.loop-worker-preserved
loop-worker-preserved g c = record {
  count = search rules;
  fresh = All-same (IsFresh g.row.R.Denot) _ _ c.in_ok-push.ensures.items (All-push (IsFresh g.row.R.Denot) _ _ c.loop-worker.invariant.fresh c.in_ok-pair_of.ensures.ok);
}
