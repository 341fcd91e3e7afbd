use Rattle.std.proofs.Common.{◌≡◌, All, length}
use Rattle.braid_io.specs.Doors.{IsNewPair}
use Rattle.braid_net.specs.Told.{untold_doorway, untold_ringing}
use Rattle.braid_net.proofs.tcp_port.pairs_at.Given as goal

abbrev pub invariant-loop-worker : goal.invariant-loop-worker
invariant-loop-worker g l =
    record {
      count : length l.pairs.items ≡ l._worker;
      fresh : All (λ p. IsNewPair (untold_doorway p.0.faults p.0.link_read_faults p.0.link_write_faults) (untold_ringing p.1.agains p.1.rings)) l.pairs.items;
    }
