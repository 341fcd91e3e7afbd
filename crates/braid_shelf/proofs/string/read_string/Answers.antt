use Rattle.std.proofs.Common.{◌≡◌, ◌≤◌, ◌∷◌, arith, inl, inr, ◌⊎◌, sym, ap, ◌∙◌}
use Rattle.braid_shelf.specs.Reading.{string_from}
use Rattle.braid_shelf.proofs.Characters.{plain_step, escaped_step}
use Rattle.braid_shelf.proofs.string.read_string.Goals as goal
use Rattle.braid_shelf.proofs.string.read_string.Goals.{then-kept-eq92+in-Some-split_first+else-escaped-ne34, else-escaped-ne34-via-then-escaped-ne34+else-escaped-ne92, else-escaped-ne34-via-else-escaped-ne34, else-kept-eq92+else-kept-lt32+else-kept-gt126}

pub loop-byte-preserved : goal.loop-byte-preserved
loop-byte-preserved c =
    let kept = c.if-kept-eq92.kept in
    let next = c.if-kept-eq92.next.now in
    let first : c.loop-byte.rest.now ≡ c.in-Some.byte.now ∷ c.in-Some.after.now = c.in-Some.ensures.cases.0 in
    let grown = ap (λ t. string_from c.args.quote t next) c.in_ok-push.ensures.ok in
    elim c.if-kept-eq92.branch [
      | then-kept-eq92+in-Some-split_first+else-escaped-ne34 w ↦
          let which : (kept ≡ 34) ⊎ (kept ≡ 92) = elim w.else-escaped-ne34.branch [
            | else-escaped-ne34-via-then-escaped-ne34+else-escaped-ne92 v ↦ inr (w.kept-is ∙ omega arith)
            | else-escaped-ne34-via-else-escaped-ne34 v ↦ inl (w.kept-is ∙ omega arith)
          ] in
          let two : c.loop-byte.rest.now ≡ 92 ∷ kept ∷ next = let second : c.in-Some.after.now ≡ w.in-Some-split_first.escaped.now ∷ w.in-Some-split_first.after.now = w.in-Some-split_first.ensures.cases.0 in cc in
          grown ∙ escaped_step c.args.quote c.loop-byte.text c.loop-byte.rest.now next kept two which ∙ c.loop-byte.invariant
      | else-kept-eq92+else-kept-lt32+else-kept-gt126 w ↦
          let one : c.loop-byte.rest.now ≡ kept ∷ next = cc in
          let from : 32 ≤ kept = omega (arith, w.kept-is) in
          let to : kept ≤ 126 = omega (arith, w.kept-is) in
          grown ∙ plain_step c.args.quote c.loop-byte.text c.loop-byte.rest.now next kept one (λ h. c.if-kept-eq34.false (sym w.kept-is ∙ h)) (λ h. w.if-kept-eq92.false (sym w.kept-is ∙ h)) from to ∙ c.loop-byte.invariant
    ]
