use Rattle.std.proofs.Common.{ap, ◌∙◌, refl, subst}
use Rattle.braid_http.specs.Asks.{WireView}
use Rattle.braid_sync.specs.Pieces.{PieceView}
use Rattle.braid_sync.specs.Steps.{Fails}
use Rattle.braid_sync.proofs.Refilling.{refills_got, refills_end, refills_failed, ends_moved}
use Rattle.braid_sync.proofs.hear.Stream.refill.Goals as goal

pub returns-in-Got-clause-hears : goal.returns-in-Got-clause-hears
returns-in-Got-clause-hears g c us content passed s used all =
    refills_got c.args.self.now _ us content passed c.in-Got.count c.read.new.buf _ _ _ _ s used c.in-Got.ensures.answer.0 c.in-Got.ensures.answer.1 c.in-Got.ensures.reads (λ v. (c.in-Got.ensures.again v).0) c.in-Got.ensures.over refl (ap (λ (p : PieceView). p.left) c.of-self.ensures.value) c.in-Got.ensures.kept

pub returns-in-End-clause-hears : goal.returns-in-End-clause-hears
returns-in-End-clause-hears g c us content passed s used all =
    refills_end c.last.result c.args.self.now _ us content passed c.read.new.buf _ _ _ _ s used all
    (λ content b h n. ends_moved c.read.new.buf c.last.new.self.body c.read.new.self content b c.args.self.now.wire.held c.last.new.self.wire.held c.read.new.wire.held _ _ c.last.ensures.body (ap (λ (w : WireView). w.held) c.last.ensures.wire) (c.in-End.ensures.reads content b h n))
    (λ v. let a = c.in-End.ensures.again v in (c.last.ensures.body ∙ a.1, c.last.ensures.wire ∙ a.2, ap g.K.Source.intake a.3)) c.in-End.ensures.kept c.last.ensures.hears

pub returns-in-Failed-clause-hears : goal.returns-in-Failed-clause-hears
returns-in-Failed-clause-hears g c us content passed s used all =
    refills_failed c.failed.result c.args.self.now _ us content passed c.read.new.buf _ _ _ _ s all c.in-Failed.ensures.reads (λ v. (c.in-Failed.ensures.again v).0) (subst (Fails c.failed.result) c.state.ensures.value c.failed.ensures.fails) c.in-Failed.ensures.kept
