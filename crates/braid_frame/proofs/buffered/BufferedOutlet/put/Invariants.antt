use Rattle.std.proofs.Common.{◌≡◌, length}
use Rattle.braid_frame.proofs.Buffers.{PutsFront}
use Rattle.braid_frame.proofs.buffered.BufferedOutlet.put.Given as goal

abbrev pub invariant-filling : goal.invariant-filling
invariant-filling g l =
    record {
      front : PutsFront l.piece l.rest (record { held = l.fn.self.held; failed = l.fn.self.failed; outflow = g.S.Sink.outflow l.fn.self.sink.now })
          (record { held = l.self.held; failed = l.self.failed; outflow = g.S.Sink.outflow l.self.sink.now });
      kept : g.S.Sink.beside_writes l.self.sink.now ≡ g.S.Sink.beside_writes l.fn.self.sink.now;
      same_sink : l.self.sink.ghost_name ≡ l.fn.self.sink.ghost_name;
    }

abbrev pub decreases-filling : goal.decreases-filling
decreases-filling g l = length l.rest
