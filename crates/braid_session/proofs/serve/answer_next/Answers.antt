use Rattle.std.proofs.Common.{inl}
use Rattle.braid_session.specs.Orders.{serving_now}
use Rattle.braid_session.proofs.Turns.{idled_none}
use Rattle.braid_session.proofs.Nexts.{does_request, does_refusal, live_behind, refusal_ends}
use Rattle.braid_session.proofs.serve.answer_next.Goals as goal

pub returns-in-Request : goal.returns-in-Request
returns-in-Request g c = record {
  live = live_behind c.answer_request-next.result c.ask.new.wire.over c.in-Request.ensures.over;
  does =
      does_request serving_now c.answer_request-next.result c.in-Request.request c.args.wire.now c.ask.new.wire c.args.marks.now.items c.answer_request-next.new.marks.items
      c.args.pass.now c.answer_request-next.new.pass
      (g.K.Source.intake c.args.link.now) (g.K.Source.intake c.ask.new.link) (g.K.Source.intake c.answer_request-next.new.link)
      (g.K.Sink.outflow c.args.link.now) (g.K.Sink.outflow c.ask.new.link) (g.K.Sink.outflow c.answer_request-next.new.link)
      (g.L.Bell.ringing c.args.bell.now) (g.L.Bell.ringing c.answer_request-next.new.bell)
      c.in-Request.ensures.asks c.in-Request.ensures.kept c.answer_request-next.ensures.answers c.answer_request-next.ensures.kept;
}

pub returns-in-Refused : goal.returns-in-Refused
returns-in-Refused g c =
    let a = c.in-Refused.ensures.asks in
    record {
      live = refusal_ends c.answer_refusal.result c.in-Refused.refusal (g.K.Sink.outflow c.ask.new.link) (g.K.Sink.outflow c.answer_refusal.new.link) _ c.answer_refusal.ensures.answers;
      does =
          does_refusal serving_now c.answer_refusal.result c.in-Refused.refusal a.0 c.args.wire.now c.ask.new.wire c.args.marks.now.items c.args.pass.now
          (g.K.Source.intake c.args.link.now) (g.K.Source.intake c.ask.new.link) (g.K.Source.intake c.answer_refusal.new.link)
          (g.K.Sink.outflow c.args.link.now) (g.K.Sink.outflow c.ask.new.link) (g.K.Sink.outflow c.answer_refusal.new.link)
          (g.L.Bell.ringing c.args.bell.now)
          a.1 c.in-Refused.ensures.kept (idled_none _ _ _ c.requires.idle) c.answer_refusal.ensures.answers c.answer_refusal.ensures.kept;
    }

pub returns-in-End-clause-does : goal.returns-in-End-clause-does
returns-in-End-clause-does g c = (c.in-End.ensures.asks, record { idled = idled_none _ _ _ c.requires.idle; outflow = c.in-End.ensures.kept })

pub returns-in-Torn-clause-does : goal.returns-in-Torn-clause-does
returns-in-Torn-clause-does g c = (c.in-Torn.ensures.asks, record { idled = idled_none _ _ _ c.requires.idle; outflow = c.in-Torn.ensures.kept })

pub returns-in-ReadFault-clause-does : goal.returns-in-ReadFault-clause-does
returns-in-ReadFault-clause-does g c = (c.in-ReadFault.ensures.asks, record { idled = idled_none _ _ _ c.requires.idle; outflow = c.in-ReadFault.ensures.kept })

pub returns-in-Memory-clause-does : goal.returns-in-Memory-clause-does
returns-in-Memory-clause-does g c =
    let a = c.in-Memory.ensures.asks in
    (c.in-Memory.ensures.kept, inl (a.0, a.2, idled_none _ _ _ c.requires.idle))
