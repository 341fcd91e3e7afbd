use Rattle.std.proofs.Common.{◌≡◌, ℕ, List, ◌-◌}
use Rattle.braid_change.specs.Updates.{UpdateView}
use Rattle.braid_stream.specs.Readers.{HasTaken, GoesOn, HaveAnswer, most_bytes}
use Rattle.braid_stream.specs.Steps.{TakesOn}
use Rattle.braid_stream.proofs.reading.Reading.go_on.Given as goal

abbrev pub invariant-reading : goal.invariant-reading
invariant-reading g l =
    record {
      going : GoesOn l.self;
      moved : (us : List UpdateView) (bytes : List ℕ) → HasTaken us l.fn.self bytes → TakesOn us bytes l.self (g.S.Source.intake l.fn.source) (g.S.Source.intake l.source);
      alone : (us : List UpdateView) (bytes : List ℕ) → HasTaken us l.fn.self bytes → HaveAnswer us bytes → l.source ≡ l.fn.source;
      kept : g.S.Source.beside_reads l.source ≡ g.S.Source.beside_reads l.fn.source;
    }

abbrev pub decreases-reading : goal.decreases-reading
decreases-reading g l = most_bytes - l.self.read
