use Rattle.std.proofs.Common.{ap, refl, sym, ◌∙◌}
use Rattle.braid_sync.specs.Pieces.{PieceView}
use Rattle.braid_world.proofs.BodyRefills.{filled, over_end, over_moved, over_cut, ended_over, ended_failed, taken_all}
use Rattle.braid_world.proofs.body_reading.BodyReading.refill.Goals as goal

pub returns-in-Got-clause-refilled : goal.returns-in-Got-clause-refilled
returns-in-Got-clause-refilled g c us content passed s used all =
    filled c.args.self.now _ us content passed c.in-Got.count c.read.new.buf _ _ s used c.in-Got.ensures.answer.0 c.in-Got.ensures.answer.1 c.in-Got.ensures.reads (λ v. (c.in-Got.ensures.again v).0) c.in-Got.ensures.over refl (ap (λ (p : PieceView). p.left) c.of-self.ensures.value)

pub returns-in-End-clause-refilled : goal.returns-in-End-clause-refilled
returns-in-End-clause-refilled g c us content passed s used all =
    ended_over c.last.result c.args.self.now c.last.new.self us content passed _ _
    (over_moved c.args.self.now.wire.held c.read.new.self c.last.new.self.body c.read.new.wire c.last.new.self.wire content passed _ _ c.last.ensures.body c.last.ensures.wire
    (over_end c.args.self.now.body c.read.new.self c.args.self.now.wire c.read.new.wire us c.args.self.now content passed c.read.new.buf _ _ s refl refl c.in-End.ensures.reads (λ v. let a = c.in-End.ensures.again v in (a.1, a.2, ap g.K.Source.intake a.3))))
    all (c.last.ensures.ends us content (taken_all c.args.self.now us content passed s used) s.going all)

pub returns-in-Torn-clause-refilled : goal.returns-in-Torn-clause-refilled
returns-in-Torn-clause-refilled g c us content passed s used all =
    let r = c.in-Failed.ensures.reads content passed s.read (λ v. let e = (c.in-Failed.ensures.again v).0 in cc) in
    ended_over c.last-in-Torn.result c.args.self.now c.last-in-Torn.new.self us content passed _ _
    (over_moved c.args.self.now.wire.held c.read.new.self c.last-in-Torn.new.self.body c.read.new.wire c.last-in-Torn.new.self.wire content passed _ _ c.last-in-Torn.ensures.body c.last-in-Torn.ensures.wire
    (over_cut c.args.self.now.wire.held c.read.new.self c.read.new.wire content passed c.read.new.buf _ _ (sym c.state.ensures.value ∙ c.in-Torn.is) r))
    all (c.last-in-Torn.ensures.ends us content (taken_all c.args.self.now us content passed s used) s.going all)

pub returns-in_default-clause-refilled : goal.returns-in_default-clause-refilled
returns-in_default-clause-refilled g c us content passed s used all =
    let r = c.in-Failed.ensures.reads content passed s.read (λ v. let e = (c.in-Failed.ensures.again v).0 in cc) in
    ended_failed c.args.self.now _ us content passed c.read.new.buf _ _ (λ e. c.in_default.not-Torn (c.state.ensures.value ∙ e)) r
