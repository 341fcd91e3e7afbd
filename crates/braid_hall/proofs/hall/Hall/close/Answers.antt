use Rattle.std.proofs.Common.{sym, ap, ◌∙◌, subst}
use mathlib.Core.Option.{some-injective}
use Rattle.std.proofs.lemmas.Option.{none-some}
use Rattle.braid_hall.specs.Passes.{AccountsFor}
use Rattle.braid_hall.proofs.Ends.{closes}
use Rattle.braid_hall.proofs.Shapes.{same_book}
use Rattle.braid_hall.proofs.hall.Hall.close.Goals as goal

pub unreachable-requires : goal.unreachable-requires
unreachable-requires g c = let is = c.pass.view_is in
    let end = closes g.B.Annals.entries g.B.Annals.by _ _ c.pass.inside.seat.table_id c.pass.inside.marks.items c.pass.inside.spare _ _ _ _ c.pass.invariant.rests.lives (ap (λ p. p.number) is ∙ c.requires.first) (ap (λ p. p.away) is ∙ c.requires.none_away) (ap (λ p. p.held) is ∙ c.requires.idle) c.close_with-closed.ensures.values.2 in
    none-some end.0 (sym c.in_default.is ∙ some-injective _ _ (sym c.take-slot.ensures.value ∙ end.1))

pub returns-clause-seen : goal.returns-clause-seen
returns-clause-seen g c = let is = c.pass.view_is in
    let end = closes g.B.Annals.entries g.B.Annals.by _ _ c.pass.inside.seat.table_id c.pass.inside.marks.items c.pass.inside.spare _ _ _ _ c.pass.invariant.rests.lives (ap (λ p. p.number) is ∙ c.requires.first) (ap (λ p. p.away) is ∙ c.requires.none_away) (ap (λ p. p.held) is ∙ c.requires.idle) c.close_with-closed.ensures.values.2 in
    ap g.B.Annals.entries (same_book _ _ (sym c.in-Some.is ∙ some-injective _ _ (sym c.take-slot.ensures.value ∙ end.1))) ∙ (end.2 ∙ ap (λ p. p.seen) is)

pub returns-clause-accounts : goal.returns-clause-accounts
returns-clause-accounts g c = let is = c.pass.view_is in
    let end = closes g.B.Annals.entries g.B.Annals.by _ _ c.pass.inside.seat.table_id c.pass.inside.marks.items c.pass.inside.spare _ _ _ _ c.pass.invariant.rests.lives (ap (λ p. p.number) is ∙ c.requires.first) (ap (λ p. p.away) is ∙ c.requires.none_away) (ap (λ p. p.held) is ∙ c.requires.idle) c.close_with-closed.ensures.values.2 in
    subst (λ b. AccountsFor g.B.Annals.by c.args.pass (g.B.Annals.entries b)) (sym (same_book _ _ (sym c.in-Some.is ∙ some-injective _ _ (sym c.take-slot.ensures.value ∙ end.1)))) (subst (λ p. AccountsFor g.B.Annals.by p (g.B.Annals.entries end.0)) is end.3)
