use Rattle.std.proofs.Common.{◌≡◌, ◌<◌, ◌≤◌, get_or, length, sym, ap, ◌∙◌, arith}
use Rattle.std.proofs.lemmas.Bool.{ltb-true, ltb-false}
use Rattle.std.proofs.lemmas.Option.{same_Some, slice_get-get_or}
use Rattle.braid_ids.specs.declared.piece.Piece.{Piece}
use Rattle.braid_ids.proofs.piece.goes_on.Goals as goal

pub returns-in-Some : goal.returns-in-Some
returns-in-Some c =
    let ps = c.args.pieces.now in
    let at = c.args.at in
    let p = c.in-Some.next.now in
    let within : at < length ps = ltb-true _ _ (sym c.in-Some.ensures.lookup.0) in
    let is : p ≡ get_or ps at p = c.in-Some.ensures.lookup.1 in
    record {
      above = λ h d l.
          (let same : get_or ps at d ≡ get_or ps at p = same_Some _ _ (sym (slice_get-get_or ps at d within) ∙ slice_get-get_or ps at p within) in
          let next : (get_or ps at d).to ≡ p.to = ap (λ (t : Piece). t.to) (same ∙ sym is) in
          let more : c.args.n < p.to = ltb-true _ _ h in
          omega (arith, next, more));
    }

pub returns-in-None : goal.returns-in-None
returns-in-None c =
    let past : length c.args.pieces.now ≤ c.args.at = ltb-false _ _ (sym c.in-None.ensures.lookup.0) in
    record { above = λ h d l. absurd (omega (arith, past, l)) }
