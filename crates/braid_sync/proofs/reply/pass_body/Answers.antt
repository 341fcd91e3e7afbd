use Rattle.std.proofs.Common.{◌≤◌, refl, arith, ◌∙◌, sym, subst}
use Rattle.std.proofs.lemmas.List.{length-take}
use Rattle.braid_sync.specs.Links.{EndsAs}
use Rattle.braid_sync.proofs.Replied.{passing_none, passing_more, passed_done, passed_spent, passed_end, passed_failed}
use Rattle.braid_sync.proofs.reply.pass_body.Goals as goal

pub passing-init : goal.passing-init
passing-init g c = record { passing = passing_none c.args.body.now c.args.body.now.kind c.args.wire.now.held _ _ _ c.requires.begun c.requires.going refl refl; over = refl }

pub returns-in-Done-clause-passes : goal.returns-in-Done-clause-passes
returns-in-Done-clause-passes g c = passed_done tt c.passing.body c.args.body.now.kind c.args.wire.now.held c.passing.wire.held c.passing.left _ _ _ _ c.passing.invariant.passing (sym c.in-Done.ensures.value)

pub returns-then-left-eq0-clause-passes : goal.returns-then-left-eq0-clause-passes
returns-then-left-eq0-clause-passes g c =
    passed_spent c.passing.body c.args.body.now.kind c.args.wire.now.held c.passing.wire.held c.passing.left _ _ _ _ c.passing.invariant.passing (λ e. c.in_default.not-Done (c.state.ensures.value ∙ e)) c.if-left-eq0.true

pub returns-in-End-clause-passes : goal.returns-in-End-clause-passes
returns-in-End-clause-passes g c =
    passed_end tt c.passing.body c.read.new.self c.args.body.now.kind c.args.wire.now.held c.passing.wire.held c.read.new.wire.held c.read.new.buf c.passing.left _ (g.K.Source.intake c.passing.link) _ _ (g.K.Sink.outflow c.passing.link) _
    c.passing.invariant.passing (λ e. c.in_default.not-Done (c.state.ensures.value ∙ e)) c.if-left-eq0.false c.in-End.ensures.reads c.in-End.ensures.kind c.in-End.ensures.kept

pub returns-in-Failed-clause-passes : goal.returns-in-Failed-clause-passes
returns-in-Failed-clause-passes g c =
    passed_failed c.failed.result c.passing.body c.read.new.self c.args.body.now.kind c.args.wire.now.held c.passing.wire.held c.read.new.wire.held c.read.new.buf c.passing.left _ (g.K.Source.intake c.passing.link) _ _ (g.K.Sink.outflow c.passing.link) _
    c.passing.invariant.passing (λ e. c.in_default.not-Done (c.state.ensures.value ∙ e)) c.if-left-eq0.false c.in-Failed.ensures.reads c.in-Failed.ensures.kind (subst (EndsAs c.failed.result) c.state-in-Failed.ensures.value c.failed.ensures.ends) c.in-Failed.ensures.kept

pub passing-preserved : goal.passing-preserved
passing-preserved g c =
    let few : c.in-Got.count ≤ c.passing.left = omega (arith, c.in-Got.ensures.answer.1, c.read.auto.buf, length-take c.room-room.result c.passing.buffer, c.room-room.ensures.room) in
    record {
      passing = passing_more c.passing.body c.read.new.self c.args.body.now.kind c.args.wire.now.held c.passing.wire.held c.read.new.wire.held c.read.new.buf c.passing.left c.in-Got.count _ (g.K.Source.intake c.passing.link) _ _ (g.K.Sink.outflow c.passing.link) _
          c.passing.invariant.passing (λ e. c.in_default.not-Done (c.state.ensures.value ∙ e)) c.in-Got.ensures.answer.1 few c.in-Got.ensures.reads c.in-Got.ensures.kind c.in-Got.ensures.kept;
      over = c.in-Got.ensures.over ∙ c.passing.invariant.over;
    }
