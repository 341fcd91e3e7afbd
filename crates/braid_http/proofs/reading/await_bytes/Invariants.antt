use Rattle.std.proofs.Common.{◌≡◌, ◌-◌, length}
use Rattle.braid_http.specs.Asks.{Took}
use Rattle.braid_http.proofs.reading.await_bytes.Given as goal

abbrev pub invariant-waiting : goal.invariant-waiting
invariant-waiting g l =
    record {
      took : Took l.fn.held l.held (g.K.Source.intake l.fn.link) (g.K.Source.intake l.link);
      kept : g.K.Sink.outflow l.link ≡ g.K.Sink.outflow l.fn.link;
    }

abbrev pub decreases-waiting : goal.decreases-waiting
decreases-waiting g l = l.whole - length l.held
