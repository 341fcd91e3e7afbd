-- Identifiers are written one after the other.
use Rattle.std.proofs.Common.{◌≡◌, ℕ, zero, suc, ◌+◌, ◌<◌, ◌≤◌, List, [], ◌∷◌, ◌++◌, length, Some, None, sym, ap, ◌∙◌, subst, append_assoc, arith, flat_map, take, length-take, inl, inr, ◌⊎◌}
use Rattle.std.specs.Prelude.{slice_get}
use Rattle.std.specs.List.{AllByRecursion}
use Rattle.std.proofs.lemmas.List.{append-nil}
use Rattle.braid_ids.specs.Identifiers.{IsIdentifier, spelled_id, spelled_ids}

abbrev others : List (List ℕ) → List ℕ
others ids = flat_map (λ (other : List ℕ). 44 ∷ 32 ∷ spelled_id other) ids

others_push : (ids : List (List ℕ)) (id : List ℕ) → others (ids ++ id ∷ []) ≡ others ids ++ 44 ∷ 32 ∷ spelled_id id
others_push [] id = append-nil (44 ∷ 32 ∷ spelled_id id)
others_push (first ∷ ids) id = ap (λ x. (44 ∷ 32 ∷ spelled_id first) ++ x) (others_push ids id) ∙ sym (append_assoc (44 ∷ 32 ∷ spelled_id first) (others ids) (44 ∷ 32 ∷ spelled_id id))

-- one identifier more, after a comma where others stand before it
pub first_written : (id : List ℕ) → spelled_ids ([] ++ id ∷ []) ≡ spelled_id id
first_written id = append-nil (spelled_id id)

pub next_written : (ids : List (List ℕ)) (id : List ℕ) → 0 < length ids → spelled_ids (ids ++ id ∷ []) ≡ (spelled_ids ids ++ 44 ∷ 32 ∷ []) ++ spelled_id id
next_written [] id h = absurd (omega arith)
next_written (first ∷ ids) id h =
    ap (λ x. spelled_id first ++ x) (others_push ids id)
    ∙ sym (append_assoc (spelled_id first) (others ids) (44 ∷ 32 ∷ spelled_id id))
    ∙ sym (append_assoc (spelled_id first ++ others ids) (44 ∷ 32 ∷ []) (spelled_id id))

pub taken_more : (ids : List (List ℕ)) (n : ℕ) (id : List ℕ) → slice_get ids n ≡ Some id → take (n + 1) ids ≡ take n ids ++ id ∷ []
taken_more [] n id e = absurd cc
taken_more (first ∷ ids) zero id e = let f : first ≡ id = cc in ap (λ (x : List ℕ). x ∷ []) f
taken_more (first ∷ ids) (suc n) id e = let f : suc n + 1 ≡ suc (n + 1) = omega arith in rw f (ap (λ (x : List (List ℕ)). first ∷ x) (taken_more ids n id e))

pub valid_more : (ids : List (List ℕ)) (id : List ℕ) → AllByRecursion IsIdentifier ids → IsIdentifier id → AllByRecursion IsIdentifier (ids ++ id ∷ [])
valid_more [] id h v = (v, tt)
valid_more (first ∷ ids) id h v = (h.0, valid_more ids id h.1 v)

pub within : (ids : List (List ℕ)) (n : ℕ) (id : List ℕ) → slice_get ids n ≡ Some id → n < length ids
within [] n id e = absurd cc
within (first ∷ ids) zero id e = omega arith
within (first ∷ ids) (suc n) id e = let h = within ids n id e in omega arith

pub none_left : (ids : List (List ℕ)) (n : ℕ) → slice_get ids n ≡ None → length ids ≤ n
none_left [] n e = omega arith
none_left (first ∷ ids) zero e = absurd cc
none_left (first ∷ ids) (suc n) e = let h = none_left ids n e in omega arith

pub written_more : (ids : List (List ℕ)) (n : ℕ) (id text before new : List ℕ) → slice_get ids n ≡ Some id → text ≡ spelled_ids (take n ids)
    → ((0 < n) × (before ≡ text ++ 44 ∷ 32 ∷ [])) ⊎ ((n ≡ 0) × (before ≡ text)) → new ≡ before ++ spelled_id id → new ≡ spelled_ids (take (n + 1) ids)
written_more ids n id text before new g e (inl b) w =
    let lt = within ids n id g in
    let l = length-take n ids in
    let some : 0 < length (take n ids) = let p = b.0 in omega arith in
    w ∙ ap (λ x. x ++ spelled_id id) (b.1 ∙ ap (λ x. x ++ 44 ∷ 32 ∷ []) e) ∙ sym (next_written (take n ids) id some) ∙ ap spelled_ids (sym (taken_more ids n id g))
written_more ids n id text before new g e (inr b) w =
    let none : take n ids ≡ [] = ap (λ k. take k ids) b.0 in
    w ∙ ap (λ x. x ++ spelled_id id) (b.1 ∙ e ∙ ap spelled_ids none) ∙ sym (first_written id) ∙ ap (λ x. spelled_ids (x ++ id ∷ [])) (sym none) ∙ ap spelled_ids (sym (taken_more ids n id g))

pub more_valid : (ids : List (List ℕ)) (n : ℕ) (id : List ℕ) → slice_get ids n ≡ Some id → AllByRecursion IsIdentifier (take n ids) → IsIdentifier id → AllByRecursion IsIdentifier (take (n + 1) ids)
more_valid ids n id g h v = subst (AllByRecursion IsIdentifier) (sym (taken_more ids n id g)) (valid_more (take n ids) id h v)
