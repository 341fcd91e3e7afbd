use Rattle.std.proofs.Common.{◌≡◌}
use Rattle.braid_http.specs.BodySteps.{budget}
use Rattle.braid_http.proofs.FramingPassed.{IsPassing}
use Rattle.braid_http.proofs.around.pass_framing.Given as goal

abbrev pub invariant-passing : goal.invariant-passing
invariant-passing g l =
    record {
      passing : IsPassing l.fn.framing l.fn.line l.framing l.line l.fn.wire.held l.wire.held (g.K.Source.intake l.fn.link) (g.K.Source.intake l.link);
      over : l.wire.over ≡ l.fn.wire.over;
      kept : g.K.Sink.outflow l.link ≡ g.K.Sink.outflow l.fn.link;
    }

abbrev pub decreases-passing : goal.decreases-passing
decreases-passing g l = budget l.framing l.line
