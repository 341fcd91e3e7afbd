use Rattle.std.proofs.Common.{◌≡◌, length}
use Rattle.braid_io.proofs.Known.{WritesFront}
use Rattle.braid_io.proofs.sink.write_all.Given as goal

abbrev pub invariant-loop-rest : goal.invariant-loop-rest
invariant-loop-rest g l =
    record {
      front : WritesFront l.bytes l.rest (g.S.Sink.outflow l.fn.sink) (g.S.Sink.outflow l.sink);
      kept : g.S.Sink.beside_writes l.sink ≡ g.S.Sink.beside_writes l.fn.sink;
    }

abbrev pub decreases-loop-rest : goal.decreases-loop-rest
decreases-loop-rest g l = length l.rest
