use Rattle.std.proofs.Common.{◌≡◌, ℕ, ◌+◌, ◌-◌, ◌<◌, ◌≤◌, ◌^◌, ◌∙◌, length, sym, ap, subst, arith, vec_len, vec_capacity}
use Rattle.std.proofs.Math.Nat.{min-le_right}
use Rattle.std.proofs.lemmas.List.{length-map}
use Rattle.braid_tree.specs.Inside.{PlainView, IsPlaceOf, stamp_of, stamps_in, rows_in, deletions_in, free_in}
use Rattle.braid_tree.specs.Rows.{PutsOne}
use Rattle.braid_tree.proofs.KeptRows.{delete_seen, delete_kept, delete_put}
use Rattle.braid_tree.proofs.plain.PlainDocumentDocument.delete.Goals as goal

pub invariant_of-self : goal.invariant_of-self
invariant_of-self c =
    let in' = c.self.inside in
    let here : IsPlaceOf (rows_in in'.elements.items) c.args.at c.index_of-index.result = subst (λ t. IsPlaceOf (rows_in t) c.args.at c.index_of-index.result) c.deref.ensures.value c.index_of-index.ensures.found in
    let fit : 1 ≤ free_in (vec_capacity in'.deletions) (vec_len in'.deletions) = subst (λ (v : PlainView). 1 ≤ v.room.deletions) (sym c.self.view_is) c.requires.roomy.deletions_fit in
    let few : length in'.deletions.items + 1 < 2 ^ 32 = omega (arith, fit, min-le_right (vec_capacity in'.deletions - vec_len in'.deletions) (4294967295 - vec_len in'.deletions)) in
    let count : c.len-number.result ≡ length in'.deletions.items = omega (arith, c.len-number.ensures) in
    delete_kept in'.versions.items in'.elements.items in'.deletions.items c.push_reserved.new.self.items c.args.at c.index_of-index.result c.len-number.result (c.len.result - 1) c.index_mut-row.result.now c.self.invariant here c.index_mut-row.ensures.value count c.push_reserved.ensures.items few

pub returns-clause-rows : goal.returns-clause-rows
returns-clause-rows c =
    let in' = c.self.inside in
    let here : IsPlaceOf (rows_in in'.elements.items) c.args.at c.index_of-index.result = subst (λ t. IsPlaceOf (rows_in t) c.args.at c.index_of-index.result) c.deref.ensures.value c.index_of-index.ensures.found in
    let count : c.len-number.result ≡ length in'.deletions.items = omega (arith, c.len-number.ensures) in
    delete_seen in'.versions.items in'.elements.items in'.deletions.items c.push_reserved.new.self.items c.args.at c.index_of-index.result c.len-number.result (c.len.result - 1) c.index_mut-row.result.now c.self.invariant here c.index_mut-row.ensures.value count c.push_reserved.ensures.items
    ∙ ap (λ (v : PlainView). v.rows) c.self.view_is

pub returns-clause-deletions : goal.returns-clause-deletions
returns-clause-deletions c =
    let in' = c.self.inside in
    let here : IsPlaceOf (rows_in in'.elements.items) c.args.at c.index_of-index.result = subst (λ t. IsPlaceOf (rows_in t) c.args.at c.index_of-index.result) c.deref.ensures.value c.index_of-index.ensures.found in
    let count : c.len-number.result ≡ length in'.deletions.items = omega (arith, c.len-number.ensures) in
    let last : c.len.result - 1 ≡ length (stamps_in in'.versions.items) - 1 = omega (arith, c.len.ensures, length-map in'.versions.items stamp_of) in
    let put = delete_put in'.versions.items in'.elements.items in'.deletions.items c.push_reserved.new.self.items c.args.at c.index_of-index.result c.len-number.result (c.len.result - 1) c.index_mut-row.result.now c.self.invariant here c.index_mut-row.ensures.value count c.push_reserved.ensures.items in
    subst (λ (v : PlainView). PutsOne v.deletions (record { at = c.args.at; by = length v.stamps - 1 }) (deletions_in c.push_reserved.new.self.items)) c.self.view_is
    (subst (λ (n : ℕ). PutsOne (deletions_in in'.deletions.items) (record { at = c.args.at; by = n }) (deletions_in c.push_reserved.new.self.items)) last put)
