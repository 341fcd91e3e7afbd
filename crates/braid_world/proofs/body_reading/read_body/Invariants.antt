use Rattle.std.proofs.Common.{◌≡◌}
use Rattle.braid_world.specs.BodyReads.{work}
use Rattle.braid_world.proofs.BodySteps.{Read}
use Rattle.braid_world.proofs.body_reading.read_body.Given as goal

abbrev pub invariant-reading : goal.invariant-reading
invariant-reading g l =
    record {
      read : Read l.fn.reading.wire.held l.fn.reading.body.kind l.reading l.updates.items (g.K.Source.intake l.fn.link) (g.K.Source.intake l.link);
      kept : g.K.Sink.outflow l.link ≡ g.K.Sink.outflow l.fn.link;
    }

abbrev pub decreases-reading : goal.decreases-reading
decreases-reading g l = work l.reading
