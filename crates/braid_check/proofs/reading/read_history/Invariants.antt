use Rattle.std.proofs.Common.{◌≡◌}
use Rattle.braid_stream.specs.Readers.{budget}
use Rattle.braid_check.proofs.Stopped.{ReadSoFar}
use Rattle.braid_check.proofs.reading.read_history.Given as goal

abbrev pub invariant-reading : goal.invariant-reading
invariant-reading g l =
    record {
      read : ReadSoFar l.reader l.resource (g.S.Source.intake l.fn.source) (g.S.Source.intake l.source);
      kept : g.S.Source.beside_reads l.source ≡ g.S.Source.beside_reads l.fn.source;
    }

abbrev pub decreases-reading : goal.decreases-reading
decreases-reading g l = budget l.reader
