use Rattle.std.proofs.Common.{◌≡◌, ℕ, ◌+◌, ◌-◌, ◌++◌, ◌∙◌, List, length, map, take, drop, take-add, append_assoc, sym, ap, subst, arith}
use Rattle.std.specs.List.Sorted.{IsPermutation}
use Rattle.std.proofs.lemmas.List.{map-append, take_rest}
use Rattle.braid_tree.specs.declared.at.At.{At}
use Rattle.braid_tree.specs.Rows.{Stamp, RowDeletion}
use Rattle.braid_spans.specs.Spans.{spelled, deletions_of, deletion_by}
use Rattle.braid_spans.proofs.document.SpanDocument.delete_all.Goals as goal

-- some more of the places behind the first ones
further : (ds : List RowDeletion) (by n k : ℕ) (xs : List At)
    → (ds ++ map (deletion_by by) (take n xs)) ++ map (deletion_by by) (take k (take (length xs - n) (drop n xs))) ≡ ds ++ map (deletion_by by) (take (n + k) xs)
further ds by n k xs =
    append_assoc ds (map (deletion_by by) (take n xs)) (map (deletion_by by) (take k (take (length xs - n) (drop n xs))))
    ∙ ap (λ t. ds ++ t) (sym (map-append (deletion_by by) (take n xs) (take k (take (length xs - n) (drop n xs))))
    ∙ ap (map (deletion_by by)) (ap (λ t. take n xs ++ take k t) (take_rest xs n) ∙ sym (take-add n k xs)))

pub loop-done-preserved : goal.loop-done-preserved
loop-done-preserved c =
    let inv = c.loop-done.invariant in
    let n = c.loop-done.done in
    let k = c.delete_front-done.result in
    let xs = c.args.places.now in
    let ds = deletions_of (spelled c.args.self.now.runs) in
    let by = length c.args.self.now.stamps - 1 in
    let f = c.delete_front-done.ensures in
    record {
      within = omega arith;
      stamps = f.stamps ∙ inv.stamps;
      rows = f.rows ∙ inv.rows;
      deletions = subst (λ (t : List RowDeletion). IsPermutation t (deletions_of (spelled c.delete_front-done.new.self.runs))) (further ds by n k xs)
          (subst (λ (s : List Stamp). IsPermutation ((ds ++ map (deletion_by by) (take n xs)) ++ map (deletion_by (length s - 1)) (take k (take (length xs - n) (drop n xs)))) (deletions_of (spelled c.delete_front-done.new.self.runs))) inv.stamps
          (f.deletions (ds ++ map (deletion_by by) (take n xs)) inv.deletions));
      room = record {
        versions_left = omega (arith, inv.room.versions_left, f.room.versions_left);
        elements_left = omega (arith, inv.room.elements_left, f.room.elements_left);
        deletions_left = omega (arith, inv.room.deletions_left, f.room.deletions_left);
      };
      runs = omega (arith, inv.runs, f.runs, f.some);
    }
