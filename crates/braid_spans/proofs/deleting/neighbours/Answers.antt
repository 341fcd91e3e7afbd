use Rattle.std.proofs.Common.{◌+◌, ◌++◌, ◌∷◌, [], List, ◌∙◌, ap, sym, arith, take}
use Rattle.std.proofs.lemmas.List.{take_more}
use Rattle.braid_tree.specs.declared.at.At.{At}
use Rattle.braid_tree.specs.Rows.{place}
use Rattle.braid_spans.proofs.SeenSteps.{places_more}
use Rattle.braid_spans.proofs.deleting.neighbours.Goals as goal

pub loop-len-preserved : goal.loop-len-preserved
loop-len-preserved c =
    let xs = c.args.places.now in
    let n = c.loop-len.len in
    let first = c.in-Some.first.now in
    let number = c.is_number.ensures.number c.if-is_number.true in
    record {
      some = omega arith;
      within = omega arith;
      rising = take_more xs n _ c.loop-len-test.true
          ∙ ap (λ (z : At). take n xs ++ z ∷ []) number
          ∙ ap (λ (t : List At). t ++ place first.version (first.ordinal + n) ∷ []) c.loop-len.invariant.rising
          ∙ sym (places_more first.version first.ordinal n);
    }
