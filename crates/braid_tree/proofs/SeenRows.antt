-- What marked versions see, in words.
use Rattle.std.proofs.Common.{◌≡◌, ◌↔◌, ◌&&◌, suc, List, [], ◌∷◌, Bool, true, false, not, IsTrue, Contains, refl, ap, subst, ◌∙◌, inl, inr, arith}
use Rattle.std.specs.List.{list_any}
use Rattle.std.proofs.lemmas.Bool.{or_cases, and_parts, and_from, cases_Bool, not-true}
use Rattle.std.proofs.lemmas.List.Folds.{list_any_at}
use Rattle.std.proofs.lemmas.List.Elements.{filter_agree}
use Rattle.braid_ids.specs.MarkSets.{has_mark, IsMarked}
use Rattle.braid_tree.specs.declared.at.At.{At}
use Rattle.braid_tree.specs.Rows.{Row, RowDeletion}
use Rattle.braid_tree.specs.Seen.{is_same_place, is_marked_deletion, is_deleted_by, is_seen_by, seen_rows, Deletes}
use Rattle.braid_tree.proofs.Links.{same_place_true, same_place_itself}

any_found : {X : Type 0} (p : X → Bool) (xs : List X) → list_any p xs ≡ true → (x : X) × Contains xs x × (p x ≡ true)
any_found p [] h = cc
any_found {X} p (y ∷ xs) h = elim (or_cases (p y) (list_any p xs) h) [ inl e ↦ (y, (0, omega arith, refl), e) | inr t ↦ wider (any_found p xs t) ]
  where
    wider : (x : X) × Contains xs x × (p x ≡ true) → (x : X) × Contains (y ∷ xs) x × (p x ≡ true)
    wider (x, (k, l, e), t) = (x, (suc k, omega (arith, l), e), t)

any_of : {X : Type 0} (p : X → Bool) (xs : List X) (x : X) → Contains xs x → p x ≡ true → list_any p xs ≡ true
any_of p xs x (k, l, e) t = list_any_at p xs k x l (ap p e ∙ t)

pub deleted_words : (marks : List Bool) (deletions : List RowDeletion) (at : At) → IsTrue (is_deleted_by marks deletions at) ↔ Deletes marks deletions at
deleted_words marks deletions at = (there (any_found (is_marked_deletion marks at) deletions), back)
  where
    there : (is_deleted_by marks deletions at ≡ true → (d : RowDeletion) × Contains deletions d × (is_marked_deletion marks at d ≡ true)) → is_deleted_by marks deletions at ≡ true → Deletes marks deletions at
    there found h = let f = found h in let both = and_parts (is_same_place f.0.at at) (has_mark marks f.0.by) f.2 in (f.0, f.1, same_place_true f.0.at at both.0, both.1)

    back : Deletes marks deletions at → is_deleted_by marks deletions at ≡ true
    back (d, c, e, m) = any_of (is_marked_deletion marks at) deletions d c (and_from (is_same_place d.at at) (has_mark marks d.by) (subst (λ (t : At). is_same_place d.at t ≡ true) e (same_place_itself d.at)) m)

pub seen_words : (marks : List Bool) (deletions : List RowDeletion) (row : Row) → IsTrue (is_seen_by marks deletions row) ↔ (IsMarked marks row.at.version × ¬ (Deletes marks deletions row.at))
seen_words marks deletions row = (
  λ h. (let both = and_parts (has_mark marks row.at.version) (not (is_deleted_by marks deletions row.at)) h in
      (both.0, λ d. clash ((deleted_words marks deletions row.at).1 d) (not-true (is_deleted_by marks deletions row.at) both.1))),
  λ p. and_from (has_mark marks row.at.version) (not (is_deleted_by marks deletions row.at)) p.0
      (elim (cases_Bool (is_deleted_by marks deletions row.at)) [ inl t ↦ absurd (p.1 ((deleted_words marks deletions row.at).0 t)) | inr f ↦ ap not f ]),
)
  where
    clash : is_deleted_by marks deletions row.at ≡ true → is_deleted_by marks deletions row.at ≡ false → ⊥
    clash t f = cc

same_bool : (a b : Bool) → (a ≡ true → b ≡ true) → (b ≡ true → a ≡ true) → a ≡ b
same_bool true true f g = refl
same_bool false false f g = refl
same_bool true false f g = let e : false ≡ true = f refl in cc
same_bool false true f g = let e : false ≡ true = g refl in cc

-- lists with the same deletions, in whatever order, leave the same rows to see
pub seen_same : (marks : List Bool) (ds es : List RowDeletion) (rows : List Row) → ((d : RowDeletion) → Contains ds d ↔ Contains es d) → seen_rows marks ds rows ≡ seen_rows marks es rows
seen_same marks ds es rows same = filter_agree (is_seen_by marks ds) (is_seen_by marks es) (λ r. ap (λ b. has_mark marks r.at.version && not b) (at_one r.at)) rows
  where
    move : (xs ys : List RowDeletion) (at : At) → ((d : RowDeletion) → Contains xs d → Contains ys d) → is_deleted_by marks xs at ≡ true → is_deleted_by marks ys at ≡ true
    move xs ys at to h = go ((deleted_words marks xs at).0 h)
      where
        go : Deletes marks xs at → is_deleted_by marks ys at ≡ true
        go (d, c, e, m) = (deleted_words marks ys at).1 (d, to d c, e, m)

    at_one : (at : At) → is_deleted_by marks ds at ≡ is_deleted_by marks es at
    at_one at = same_bool (is_deleted_by marks ds at) (is_deleted_by marks es at) (move ds es at (λ d. (same d).0)) (move es ds at (λ d. (same d).1))
