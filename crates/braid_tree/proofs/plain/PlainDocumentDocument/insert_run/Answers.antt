use Rattle.std.proofs.Common.{ℕ, ◌≡◌, ◌-◌, ◌<◌, ◌≤◌, ◌^◌, ◌∙◌, ◌++◌, Option, length, take, drop, sym, subst, arith, vec_len, vec_capacity, MatchOption}
use Rattle.std.proofs.Math.Nat.{min-le_right}
use Rattle.std.proofs.lemmas.List.{length-map}
use Rattle.braid_tree.specs.declared.at.At.{At}
use Rattle.braid_tree.specs.Rows.{place, HasPlace, AreNewOrdinals, PutsRun, ListsWithRun}
use Rattle.braid_tree.specs.Inside.{PlainView, IsPlaceOf, IsPassed, IsNotPassed, IsKept, stamp_of, stamps_in, row_of, rows_in, new_rows, free_in}
use Rattle.braid_tree.proofs.KeptRows.{insert_kept}
use Rattle.braid_tree.proofs.Put.{puts_run, put_seen}
use Rattle.braid_tree.proofs.Bridge.{run_put_at, StartsBehindRow, starts_first, starts_behind}
use Rattle.braid_tree.proofs.plain.PlainDocumentDocument.insert_run.Goals as goal
use Rattle.braid_tree.proofs.plain.PlainDocumentDocument.insert_run.Goals.{in-None, in-Some}

-- the rows that are put are those of the origin that was asked for
put_after : (c : goal.After-self-1) → c.put_run.new.rows.items ≡ take c.landing-index.result c.self.inside.elements.items ++ (new_rows (c.len.result - 1) c.args.after c.args.ordinal c.args.text.now ++ drop c.landing-index.result c.self.inside.elements.items)
put_after c =
    let same : c.match-after.after ≡ c.args.after = elim c.match-after.branch [ in-None w ↦ w.after-is | in-Some w ↦ w.after-is ∙ sym w.in-Some.is ] in
    subst (λ (o : Option At). c.put_run.new.rows.items ≡ take c.landing-index.result c.self.inside.elements.items ++ (new_rows (c.len.result - 1) o c.args.ordinal c.args.text.now ++ drop c.landing-index.result c.self.inside.elements.items)) same c.put_run.ensures.put

within : (c : goal.After-self-1) → c.landing-index.result ≤ length c.self.inside.elements.items
within c = subst (λ t. c.landing-index.result ≤ length t) c.deref-3.ensures.value c.landing-index.ensures.within

-- the version begun last
last_is : (c : goal.After-self-1) → c.len.result - 1 ≡ length (stamps_in c.self.inside.versions.items) - 1
last_is c = omega (arith, c.len.ensures, length-map c.self.inside.versions.items stamp_of)

begun : (c : goal.After-self-1) → 0 < length (stamps_in c.self.inside.versions.items)
begun c = subst (λ (v : PlainView). 0 < length v.stamps) (sym c.self.view_is) c.requires.begun

kept : (c : goal.After-self-1) → IsKept c.self.inside.versions.items c.put_run.new.rows.items c.self.inside.deletions.items
kept c =
    let in' = c.self.inside in
    let last = last_is c in
    let there = subst (λ (v : PlainView). MatchOption c.args.after (Unit {0}) (HasPlace v.rows)) (sym c.self.view_is) c.requires.there in
    let next = subst (λ (v : PlainView). AreNewOrdinals v.rows (length v.stamps - 1) c.args.ordinal) (sym c.self.view_is) c.requires.ordinals in
    let fit : length c.args.text.now ≤ free_in (vec_capacity in'.elements) (vec_len in'.elements) = subst (λ (v : PlainView). length c.args.text.now ≤ v.room.elements) (sym c.self.view_is) c.requires.roomy.elements_fit in
    let few : length c.put_run.new.rows.items < 2 ^ 32 = omega (arith, fit, c.put_run.ensures.len, c.self.invariant.few_rows, min-le_right (vec_capacity in'.elements - vec_len in'.elements) (4294967295 - vec_len in'.elements)) in
    insert_kept in'.versions.items in'.elements.items c.put_run.new.rows.items in'.deletions.items (c.len.result - 1) c.args.after c.args.ordinal c.args.text.now c.landing-index.result c.self.invariant there
    (subst (λ v. AreNewOrdinals (rows_in in'.elements.items) v c.args.ordinal) (sym last) next) (omega (arith, last, begun c)) (within c) (put_after c) few

pub invariant_of-self : goal.invariant_of-self
invariant_of-self c = kept c

pub returns-clause-known : goal.returns-clause-known
returns-clause-known c = (kept c).known

pub returns-clause-put : goal.returns-clause-put
returns-clause-put c =
    subst (λ (v : PlainView). PutsRun v.rows (rows_in c.put_run.new.rows.items) (length v.stamps - 1) c.args.after c.args.ordinal c.args.text.now) c.self.view_is
    (subst (λ n. PutsRun (rows_in c.self.inside.elements.items) (rows_in c.put_run.new.rows.items) n c.args.after c.args.ordinal c.args.text.now) (last_is c)
    (puts_run c.self.inside.elements.items c.put_run.new.rows.items (c.len.result - 1) c.args.after c.args.ordinal c.args.text.now c.landing-index.result (within c) (put_after c)))

-- where the walk over the neighbours ended, said of what is kept
passed : (c : goal.After-self-1) (k : ℕ) → c.match-after.start ≤ k → k < c.landing-index.result → IsPassed (stamps_in c.self.inside.versions.items) (rows_in c.self.inside.elements.items) (place (c.len.result - 1) c.args.ordinal) k
passed c k a b =
    subst (λ t. IsPassed (stamps_in c.self.inside.versions.items) (rows_in t) (place (c.len.result - 1) c.args.ordinal) k) c.deref-3.ensures.value
    (subst (λ t. IsPassed (stamps_in t) (rows_in c.deref-3.result.now) (place (c.len.result - 1) c.args.ordinal) k) c.deref-2.ensures.value (c.landing-index.ensures.passed k a b))

stopped : (c : goal.After-self-1) → c.landing-index.result < length (rows_in c.self.inside.elements.items) → IsNotPassed (stamps_in c.self.inside.versions.items) (rows_in c.self.inside.elements.items) (place (c.len.result - 1) c.args.ordinal) c.landing-index.result
stopped c l =
    let m : c.landing-index.result < length c.deref-3.result.now = subst (λ t. c.landing-index.result < length t) (sym c.deref-3.ensures.value) (omega (arith, l, length-map c.self.inside.elements.items row_of)) in
    subst (λ t. IsNotPassed (stamps_in c.self.inside.versions.items) (rows_in t) (place (c.len.result - 1) c.args.ordinal) c.landing-index.result) c.deref-3.ensures.value
    (subst (λ t. IsNotPassed (stamps_in t) (rows_in c.deref-3.result.now) (place (c.len.result - 1) c.args.ordinal) c.landing-index.result) c.deref-2.ensures.value (c.landing-index.ensures.stop m))

pub returns-clause-placed : goal.returns-clause-placed
returns-clause-placed c =
    let vs = stamps_in c.self.inside.versions.items in
    let rows = rows_in c.self.inside.elements.items in
    let new = rows_in c.put_run.new.rows.items in
    let behind : StartsBehindRow rows c.args.after c.match-after.start = elim c.match-after.branch [
      | in-None w ↦ starts_first rows c.args.after c.match-after.start w.in-None.is w.start-is
      | in-Some w ↦ starts_behind rows c.args.after c.match-after.start w.in-Some.at w.index_of.result w.in-Some.is (subst (λ t. IsPlaceOf (rows_in t) w.in-Some.at w.index_of.result) w.deref.ensures.value w.index_of.ensures.found) w.start-is
    ] in
    subst (λ (v : PlainView). ListsWithRun v.stamps v.rows new c.args.after c.args.ordinal c.args.text.now) c.self.view_is
    (λ es above ins. run_put_at vs rows new es c.args.after above c.args.ordinal c.args.text.now c.match-after.start c.landing-index.result (c.len.result - 1) (last_is c) ins behind c.landing-index.ensures.from
    (omega (arith, within c, length-map c.self.inside.elements.items row_of)) (passed c) (stopped c)
    (put_seen c.self.inside.elements.items c.put_run.new.rows.items (c.len.result - 1) c.args.after c.args.ordinal c.args.text.now c.landing-index.result (put_after c)))
