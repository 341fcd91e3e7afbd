use Rattle.std.proofs.Common.{◌≡◌, ℕ, ◌-◌, ◌<◌, ◌++◌, ◌∷◌, [], List, IsSomeAnd, length, map, slice_get, subst, sym, ap, ◌∙◌, arith, length-append}
use Rattle.std.specs.List.Sorted.{IsPermutation}
use Rattle.braid_tree.specs.declared.at.At.{At}
use Rattle.braid_tree.specs.Rows.{Stamp, Row, RowDeletion, HasPlace, AreNewOrdinals}
use Rattle.braid_tree.proofs.Callers.{next_begin}
use Rattle.braid_text.specs.Puts.{AreThere, deletion_by}
use Rattle.braid_text.specs.Standing.{rows_in, row_deletions_in}
use Rattle.braid_text.proofs.Putting.{there_more, there_at}
use Rattle.braid_text.proofs.adding.add_version.Goals as goal

pub put_runs-requires-clause-next : goal.put_runs-requires-clause-next
put_runs-requires-clause-next c =
    subst (λ (rows : List Row). AreNewOrdinals rows (length (c.begin.new.self.stamps) - 1) 0) (sym c.begin.ensures.rows)
    (subst (λ (vs : List Stamp). AreNewOrdinals (rows_in c.args.doc.now) (length vs - 1) 0) (sym c.begin.ensures.stamps) (next_begin _ _ (rows_in c.args.doc.now) c.begin.ensures.known))

pub delete_all-requires-clause-there : goal.delete_all-requires-clause-there
delete_all-requires-clause-there c =
    subst (λ (places : List At). (i : ℕ) → i < length places → IsSomeAnd (slice_get places i) (HasPlace (rows_in c.put_runs.new.doc))) (sym c.deref-2.ensures.value)
    (there_at (rows_in c.put_runs.new.doc) c.args.resolved.now.deletes.items
    (there_more (rows_in c.begin.new.self) (rows_in c.put_runs.new.doc) c.args.resolved.now.deletes.items c.put_runs.ensures.places
    (subst (λ (rows : List Row). AreThere rows c.args.resolved.now.deletes.items) (sym c.begin.ensures.rows) c.requires.there)))

pub returns-clause-deletions : goal.returns-clause-deletions
returns-clause-deletions c =
    let number : length (c.put_runs.new.doc.stamps) - 1 ≡ length (c.args.doc.now.stamps) = omega (arith, ap length c.put_runs.ensures.stamps, ap length c.begin.ensures.stamps, length-append (c.args.doc.now.stamps) (record { id = c.args.id; level = c.args.resolved.now.level } ∷ [])) in
    let before : row_deletions_in c.put_runs.new.doc ≡ row_deletions_in c.args.doc.now = c.put_runs.ensures.deletions ∙ c.begin.ensures.deletions in
    subst (λ (ds : List RowDeletion). IsPermutation ds (row_deletions_in c.delete_all.new.self)) (λ i. before i ++ map (deletion_by (number i)) (c.deref-2.ensures.value i)) c.delete_all.ensures.deletions
