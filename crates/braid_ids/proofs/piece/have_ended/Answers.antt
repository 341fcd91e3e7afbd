use Rattle.std.proofs.Common.{◌≡◌, ◌-◌, ◌<◌, ◌≤◌, get_or, length, sym, ap, ◌∙◌, arith}
use Rattle.std.proofs.lemmas.Bool.{leb-true, ltb-true}
use Rattle.std.proofs.lemmas.Option.{same_Some, slice_get-get_or}
use Rattle.braid_ids.specs.declared.piece.Piece.{Piece}
use Rattle.braid_ids.proofs.Ranges.{ends_rise}
use Rattle.braid_ids.proofs.piece.have_ended.Goals as goal

pub returns-in-Some : goal.returns-in-Some
returns-in-Some c =
    let ps = c.args.pieces.now in
    let p = c.in-Some.last.now in
    let at = c.args.at - 1 in
    let within : at < length ps = ltb-true _ _ (sym c.in-Some.ensures.lookup.0) in
    let is : p ≡ get_or ps at p = c.in-Some.ensures.lookup.1 in
    record {
      ended = λ h k d l w.
          (let rise = ends_rise 0 ps c.requires.rise k at d (omega (arith, l)) within in
          let same : get_or ps at d ≡ get_or ps at p = same_Some _ _ (sym (slice_get-get_or ps at d within) ∙ slice_get-get_or ps at p within) in
          let last : (get_or ps at d).to ≡ p.to = ap (λ (t : Piece). t.to) (same ∙ sym is) in
          let below : p.to ≤ c.args.n = leb-true _ _ h in
          omega (arith, rise, last, below));
    }
