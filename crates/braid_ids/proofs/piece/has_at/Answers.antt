use Rattle.std.proofs.Common.{◌≡◌, ◌<◌, ◌≤◌, get_or, length, sym, ap, arith}
use Rattle.std.proofs.lemmas.Bool.{ltb-true}
use Rattle.braid_ids.specs.declared.piece.Piece.{Piece}
use Rattle.braid_ids.proofs.Ranges.{in_at}
use Rattle.braid_ids.proofs.piece.has_at.Goals as goal

pub returns-then-p-n : goal.returns-then-p-n
returns-then-p-n c =
    let ps = c.args.pieces.now in
    let at = c.args.at in
    let p = c.in-Some.p.now in
    let within : at < length ps = ltb-true _ _ (sym c.in-Some.ensures.lookup.0) in
    let is : p ≡ get_or ps at p = c.in-Some.ensures.lookup.1 in
    let from = ap (λ (t : Piece). t.from) is in
    let to = ap (λ (t : Piece). t.to) is in
    let low : p.from ≤ c.args.n = c.if-p-n.true in
    record { has = λ h. (let high : c.args.n < p.to = ltb-true _ _ h in in_at ps c.args.n at p within (omega (arith, from, low)) (omega (arith, to, high))) }
