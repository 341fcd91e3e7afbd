use Rattle.std.proofs.Common.{◌-◌, ◌++◌, drop, map, arith, sym, ap, ◌∙◌, refl}
use Rattle.std.proofs.lemmas.List.{append-nil, drop_all}
use Rattle.braid_tree.specs.Seen.{seen_rows, place_in}
use Rattle.braid_tree.specs.Inside.{rows_in, deletions_in}
use Rattle.braid_tree.proofs.Windows.{window, window_none, window_nil, place_taken, place_passed, place_hidden}
use Rattle.braid_tree.proofs.visible.visible_places.Goals as goal
use Rattle.braid_tree.proofs.visible.visible_places.Goals.{then-is_visible, then-number-from+in_ok-push, else-number-from, else-is_visible, else-loop-row-test, then-loop-row-test+then-number-to}

pub loop-row-preserved : goal.loop-row-preserved
loop-row-preserved c =
    let marks = c.args.marks.now in
    let ds = deletions_in c.args.deletions.now in
    let rows = c.args.rows.now in
    let i = c.loop-row.row-index in
    let n = c.loop-row.number in
    let done = c.loop-row.places.items in
    let whole = window c.args.from c.args.to (map place_in (seen_rows marks ds (rows_in rows))) in
    record {
      few = elim c.if-is_visible.branch [ then-is_visible w ↦ omega (arith, w.number-is, c.loop-row.invariant.few) | else-is_visible w ↦ omega (arith, w.number-is, c.loop-row.invariant.few) ];
      all = elim c.if-is_visible.branch [
        | then-is_visible w ↦ elim w.if-number-from.branch [
          | then-number-from+in_ok-push v ↦ rw (w.number-is, w.places-is, v.places-is) (place_taken marks ds rows i _ c.args.from c.args.to n done whole c.loop-row-test.true _ (sym c.is_visible.ensures.seen ∙ w.if-is_visible.true) v.if-number-from.true (omega (arith, c.if-number-to.false)) v.in_ok-push.ensures.items c.loop-row.invariant.all)
          | else-number-from v ↦ rw (w.number-is, w.places-is, v.places-is) (place_passed marks ds rows i _ c.args.from c.args.to n done whole c.loop-row-test.true (sym c.is_visible.ensures.seen ∙ w.if-is_visible.true) (omega (arith, v.if-number-from.false)) c.loop-row.invariant.all)
        ]
        | else-is_visible w ↦ rw (w.number-is, w.places-is) (place_hidden marks ds rows i _ c.args.from c.args.to n done whole c.loop-row-test.true (sym c.is_visible.ensures.seen ∙ w.if-is_visible.false) c.loop-row.invariant.all)
      ];
    }

pub returns : goal.returns
returns c =
    let marks = c.args.marks.now in
    let ds = deletions_in c.args.deletions.now in
    let rows = c.args.rows.now in
    let done = c.loop-row.places.items in
    let n = c.loop-row.number in
    record {
      ok = elim c.loop-row-test.branch [
        | else-loop-row-test w ↦ sym (append-nil done ∙ refl) ∙ sym (ap (λ t. done ++ t) (ap (λ t. window (c.args.from - n) (c.args.to - n) (map place_in (seen_rows marks ds (rows_in t)))) (drop_all c.loop-row.row-index rows (omega (arith, w.loop-row-test.false))) ∙ window_nil (c.args.from - n) (c.args.to - n))) ∙ c.loop-row.invariant.all
        | then-loop-row-test+then-number-to w ↦ sym (append-nil done) ∙ sym (ap (λ t. done ++ t) (window_none (c.args.from - n) (c.args.to - n) (map place_in (seen_rows marks ds (rows_in (drop c.loop-row.row-index rows)))) (omega (arith, w.if-number-to.true)))) ∙ c.loop-row.invariant.all
      ];
    }
