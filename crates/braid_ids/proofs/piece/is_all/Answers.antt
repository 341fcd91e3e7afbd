use Rattle.std.proofs.Common.{sym}
use Rattle.std.proofs.lemmas.Bool.{eq-eqb, eqb-true}
use Rattle.braid_ids.proofs.Ranges.{none_all, first_all}
use Rattle.braid_ids.proofs.piece.is_all.Goals as goal

pub returns-then-first-eq0 : goal.returns-then-first-eq0
returns-then-first-eq0 c =
    let both = first_all c.args.size c.args.pieces.now c.in-Some.first.now c.requires.keep (sym c.in-Some.ensures.value) in
    record { all = (λ h. both.0 (c.if-first-eq0.true, eqb-true _ _ h), λ a. eq-eqb _ _ ((both.1 a).1)) }

pub returns-else-first-eq0 : goal.returns-else-first-eq0
returns-else-first-eq0 c =
    let both = first_all c.args.size c.args.pieces.now c.in-Some.first.now c.requires.keep (sym c.in-Some.ensures.value) in
    record { all = (λ h. absurd (c.if-first-eq0.false (eqb-true _ _ h)), λ a. absurd (c.if-first-eq0.false ((both.1 a).0))) }

pub returns-in_default : goal.returns-in_default
returns-in_default c =
    let both = none_all c.args.size c.args.pieces.now (sym c.in_default.ensures.value) in
    record { all = (λ h. both.0 (eqb-true _ _ h), λ a. eq-eqb _ _ (both.1 a)) }
