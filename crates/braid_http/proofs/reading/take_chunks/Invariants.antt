use Rattle.std.proofs.Common.{◌≡◌, ◌+◌, ◌-◌, ◌*◌, length, take}
use Rattle.braid_http.proofs.Decoding.{Chunking}
use Rattle.braid_http.proofs.reading.take_chunks.Given as goal

abbrev pub invariant-decoding : goal.invariant-decoding
invariant-decoding g l =
    record {
      chunking : Chunking (take l.ready.used l.fn.held) l.fn.held l.place l.passed l.held l.content (g.K.Source.intake l.fn.link) (g.K.Source.intake l.link);
      kept : g.K.Sink.outflow l.link ≡ g.K.Sink.outflow l.fn.link;
    }

abbrev pub decreases-decoding : goal.decreases-decoding
decreases-decoding g l = 3 * (543_162_624 - l.passed) + (16_384 - length l.held)
