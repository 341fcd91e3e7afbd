use Rattle.std.proofs.Common.{get_or, length, ◌≡◌, ◌<◌, ◌≤◌, ◌↔◌, sym, subst, arith}
use Rattle.std.proofs.lemmas.Bool.{le-leb, leb-true, ltb-true, ltb-false}
use Rattle.braid_ids.specs.declared.piece.Piece.{Piece}
use Rattle.braid_ids.specs.Pieces.{IsIn}
use Rattle.braid_ids.proofs.Ranges.{found_at, found_nowhere}
use Rattle.braid_ids.proofs.piece.is_in.Goals as goal

pub returns-in-Some : goal.returns-in-Some
returns-in-Some c =
    let ps = c.args.pieces.now in
    let at = c.ended_by-at.result in
    let p = c.in-Some.p.now in
    let within : at < length ps = ltb-true _ _ (sym c.in-Some.ensures.lookup.0) in
    let is : p ≡ get_or ps at p = c.in-Some.ensures.lookup.1 in
    let found = found_at 0 ps c.args.n at p c.requires.rise within (λ i l. c.ended_by-at.ensures.before i p l (omega (arith, l, within))) (c.ended_by-at.ensures.behind p within) in
    let both = subst (λ (t : Piece). IsIn ps c.args.n ↔ (t.from ≤ c.args.n)) (sym is) found in
    record { is_in = (λ h. both.1 (leb-true _ _ h), λ i. le-leb _ _ (both.0 i)) }

pub returns-in-None : goal.returns-in-None
returns-in-None c =
    let ps = c.args.pieces.now in
    let at = c.ended_by-at.result in
    let past : length ps ≤ at = ltb-false _ _ (sym c.in-None.ensures.lookup.0) in
    let none : Piece = record { from = 0; to = 0 } in
    record {
      is_in = (
        λ h. absurd (cc),
        λ i. absurd (found_nowhere ps c.args.n none (λ k l. c.ended_by-at.ensures.before k none (omega (arith, l, past)) l) i),
      );
    }
