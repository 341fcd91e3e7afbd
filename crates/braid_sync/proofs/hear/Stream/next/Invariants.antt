use Rattle.std.proofs.Common.{◌≡◌, ◌⊎◌, ◌+◌, ◌-◌, ℕ, List, length}
use Rattle.braid_change.specs.Updates.{UpdateView}
use Rattle.braid_stream.specs.Readers.{most_bytes}
use Rattle.braid_sync.specs.Steps.{StreamsOn}
use Rattle.braid_sync.proofs.Heard.{Went, Past}
use Rattle.braid_sync.proofs.hear.Stream.next.Given as goal

abbrev pub invariant-hearing : goal.invariant-hearing
invariant-hearing g l =
    record {
      kind : l.self.body.kind ≡ l.fn.self.body.kind;
      went : (us : List UpdateView) (content passed : List ℕ) → StreamsOn l.fn.self.wire l.fn.self.body l.fn.self.reader l.fn.self.piece us content passed
          → Went l.fn.self l.self us content passed (g.K.Source.intake l.fn.link) (g.K.Source.intake l.link) (g.K.Sink.outflow l.fn.link) (g.K.Sink.outflow l.link);
      past : (l.self.reader ≡ l.fn.self.reader) ⊎ Past l.fn.self.reader l.self.reader;
    }

abbrev pub decreases-hearing : goal.decreases-hearing
decreases-hearing g l = most_bytes - l.self.reader.read + (1 - length l.self.piece.left)
