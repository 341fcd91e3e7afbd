use Rattle.std.proofs.Common.{◌≡◌, ◌+◌, ◌-◌, ◌∙◌, ℕ, List, [], ◌∷◌, take, drop, length, arith, subst, sym, ap}
use Rattle.braid_tree.specs.Rows.{Stamp, ListsWithRun, AreNewOrdinals, KeepsPlaces, PutsRun}
use Rattle.braid_tree.proofs.Places.{keeps_put, next_put}
use Rattle.braid_text.specs.Puts.{AreOver, ListsWithRuns, text_len, total_len}
use Rattle.braid_text.specs.Standing.{rows_in}
use Rattle.braid_text.specs.RunCounts.{text_count}
use Rattle.braid_text.proofs.Insertions.{some_text, insertions_more}
use Rattle.braid_text.proofs.Putting.{runs_more, empty_text, empty_run, over_more, runs_left, total_more}
use Rattle.braid_text.proofs.adding.put_runs.Goals as goal

pub loop-run-preserved : goal.loop-run-preserved
loop-run-preserved c =
    let inv = c.loop-run.invariant in
    let i = c.loop-run.run-index in
    let runs = c.args.runs.now in
    let r = c.run-item.result in
    let rest = drop (i + 1) runs in
    let vs = c.args.doc.now.stamps in
    let before = rows_in c.loop-run.doc in
    let after = rows_in c.insert_run.new.self in
    let next : drop i runs ≡ r ∷ rest = runs_left runs i r c.loop-run-test.true c.run-item.is in
    let more = total_more runs i r c.loop-run-test.true c.run-item.is in
    let over : AreOver before (total_len (take i runs)) (r ∷ rest) = subst (AreOver before (total_len (take i runs))) next inv.over in
    let some : text_count c.chars-text.result.now ≡ 1 = some_text c.chars-text.result.now (sym c.is_empty.ensures ∙ c.if-is_empty.false) in
    let long : length c.chars-text.result.now ≡ text_len r = ap length c.chars-text.ensures.value in
    let put : PutsRun before after (length vs - 1) r.after r.ordinal r.text =
    subst (λ (t : List ℕ). PutsRun before after (length vs - 1) r.after r.ordinal t) c.chars-text.ensures.value
    (subst (λ (s : List Stamp). PutsRun before after (length s - 1) r.after r.ordinal c.chars-text.result.now) inv.same c.insert_run.ensures.put) in
    let kept : KeepsPlaces before after = keeps_put before after (length vs - 1) r.after r.ordinal r.text put in
    let placed : ListsWithRun vs before after r.after r.ordinal r.text =
    subst (λ (t : List ℕ). ListsWithRun vs before after r.after r.ordinal t) c.chars-text.ensures.value
    (subst (λ (s : List Stamp). ListsWithRun s before after r.after r.ordinal c.chars-text.result.now) inv.same c.insert_run.ensures.placed) in
    record {
      same = c.insert_run.ensures.stamps ∙ inv.same;
      row_deletions = c.insert_run.ensures.deletions ∙ inv.row_deletions;
      known = c.insert_run.ensures.known;
      over = subst (λ (n : ℕ). AreOver after n rest) (sym more) (over_more before after (total_len (take i runs) + text_len r) rest kept over.2);
      next = subst (AreNewOrdinals after (length vs - 1)) (ap (λ (n : ℕ). n + text_len r) over.1 ∙ sym more) (next_put before after (length vs - 1) r.after r.ordinal r.text put (subst (AreNewOrdinals before (length vs - 1)) (sym over.1) inv.next));
      places = λ at h. kept at (inv.places at h);
      room = record {
        versions_left = omega (arith, inv.room.versions_left, c.insert_run.ensures.room.versions_left);
        elements_left = omega (arith, inv.room.elements_left, c.insert_run.ensures.room.elements_left, more, long);
        deletions_left = omega (arith, inv.room.deletions_left, c.insert_run.ensures.room.deletions_left);
      };
      count = omega (arith, inv.count, c.insert_run.ensures.runs, insertions_more runs i r c.loop-run-test.true c.run-item.is, some, ap text_count c.chars-text.ensures.value);
      left = λ new lists. inv.left new (subst (ListsWithRuns vs before new) (sym next) (runs_more vs before after new r rest placed lists));
    }

pub loop-run-preserved-then-is_empty : goal.loop-run-preserved-then-is_empty
loop-run-preserved-then-is_empty c =
    let inv = c.loop-run.invariant in
    let i = c.loop-run.run-index in
    let runs = c.args.runs.now in
    let r = c.run-item.result in
    let rest = drop (i + 1) runs in
    let vs = c.args.doc.now.stamps in
    let before = rows_in c.loop-run.doc in
    let next : drop i runs ≡ r ∷ rest = runs_left runs i r c.loop-run-test.true c.run-item.is in
    let more = total_more runs i r c.loop-run-test.true c.run-item.is in
    let over : AreOver before (total_len (take i runs)) (r ∷ rest) = subst (AreOver before (total_len (take i runs))) next inv.over in
    let empty : r.text ≡ [] = sym c.chars-text.ensures.value ∙ empty_text c.chars-text.result.now (sym c.is_empty.ensures ∙ c.if-is_empty.true) in
    record {
      same = inv.same;
      row_deletions = inv.row_deletions;
      known = inv.known;
      over = subst (λ (n : ℕ). AreOver before n rest) (sym more) over.2;
      next = λ m l. inv.next m (omega (arith, l, more));
      places = inv.places;
      room = record {
        versions_left = inv.room.versions_left;
        elements_left = omega (arith, inv.room.elements_left, more);
        deletions_left = inv.room.deletions_left;
      };
      count = omega (arith, inv.count, insertions_more runs i r c.loop-run-test.true c.run-item.is);
      left = λ new lists. inv.left new (subst (ListsWithRuns vs before new) (sym next) (runs_more vs before before new r rest (empty_run vs before r empty) lists));
    }
