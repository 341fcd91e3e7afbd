use Rattle.std.proofs.Common.{refl, ap, ◌∙◌}
use Rattle.braid_http.specs.Asks.{WireView}
use Rattle.braid_session.proofs.Endings.{stand, step, finish, subscribed, closing, spent, last_close}
use Rattle.braid_session.proofs.serve.serve_session.Goals as goal

pub serving-init : goal.serving-init
serving-init g c =
    stand _ _ _ refl (ap (λ (w : WireView). w.held) c.new-wire.ensures.value) (ap (λ (w : WireView). w.over) c.new-wire.ensures.value) c.new-marks.ensures.items c.requires.idle

pub answer_next-requires-clause-hall : goal.answer_next-requires-clause-hall
answer_next-requires-clause-hall g c = λ κs outlives. c.serving.invariant.going.passed.hall ∙ c.requires.hall

pub answer_next-requires-clause-idle : goal.answer_next-requires-clause-idle
answer_next-requires-clause-idle g c = λ κs outlives. c.serving.invariant.going.passed.idle

pub answer_next-requires-clause-live : goal.answer_next-requires-clause-live
answer_next-requires-clause-live g c = λ κs outlives. c.serving.invariant.live

pub returns-in-Ended : goal.returns-in-Ended
returns-in-Ended g c = record { serves = finish _ _ _ _ _ _ _ c.serving.invariant c.serving-test.true c.in-Ended.ensures.does refl refl refl }

pub returns-in-Subscribed : goal.returns-in-Subscribed
returns-in-Subscribed g c = record {
  serves = subscribed _ _ _
      (record {
        wire = c.answer_next.new.wire;
        marks = c.answer_next.new.marks.items;
        pass = c.answer_next.new.pass;
        intake = g.K.Source.intake c.answer_next.new.link;
        outflow = g.K.Sink.outflow c.answer_next.new.link;
        ringing = g.L.Bell.ringing c.answer_next.new.bell;
      }) _ _ _ _ c.serving.invariant c.serving-test.true c.in-Subscribed.ensures.does refl c.with_head-requests.ensures.count refl;
}

pub returns : goal.returns
returns g c = record { serves = spent _ _ _ _ _ c.serving.invariant c.serving-test.false refl refl refl }

pub serving-preserved : goal.serving-preserved
serving-preserved g c = step _ _ _ _ _ _ c.serving.invariant c.serving-test.true c.in-Answered.ensures.does c.in-Answered.ensures.live (last_close _ _ c.else-close.either)

pub returns-then-requests-lt-MOST_REQUESTS : goal.returns-then-requests-lt-MOST_REQUESTS
returns-then-requests-lt-MOST_REQUESTS g c = record {
  serves = closing _ _ _
      (record {
        wire = c.answer_next.new.wire;
        marks = c.answer_next.new.marks.items;
        pass = c.answer_next.new.pass;
        intake = g.K.Source.intake c.answer_next.new.link;
        outflow = g.K.Sink.outflow c.answer_next.new.link;
        ringing = g.L.Bell.ringing c.answer_next.new.bell;
      }) _ _ _ c.serving.invariant c.serving-test.true c.if-requests-lt-MOST_REQUESTS.true c.in-Answered.ensures.does c.if-close.true refl refl refl;
}
