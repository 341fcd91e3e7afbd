use Rattle.std.proofs.Common.{◌-◌}
use Rattle.braid_session.specs.Orders.{serving_now}
use Rattle.braid_session.proofs.Endings.{Standing}
use Rattle.braid_session.proofs.serve.serve_session.Given as goal

abbrev pub invariant-serving : goal.invariant-serving
invariant-serving g l =
    Standing serving_now
    (record { wire = l.initial.wire; marks = l.initial.marks.items; pass = l.fn.pass; intake = g.K.Source.intake l.fn.link; outflow = g.K.Sink.outflow l.fn.link; ringing = g.L.Bell.ringing l.fn.bell })
    l.requests
    (record { wire = l.wire; marks = l.marks.items; pass = l.pass; intake = g.K.Source.intake l.link; outflow = g.K.Sink.outflow l.link; ringing = g.L.Bell.ringing l.bell })

abbrev pub decreases-serving : goal.decreases-serving
decreases-serving g l = 10_000 - l.requests
