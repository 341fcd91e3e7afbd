-- What one more deletion does to a list of them, wherever it is put.
use Rattle.std.proofs.Common.{◌≡◌, ◌↔◌, ◌⊎◌, ◌+◌, ℕ, List, [], ◌∷◌, ◌++◌, Contains, length, refl, sym, ap, subst, ◌∙◌, inl, inr, arith, suc, zero}
use Rattle.std.proofs.lemmas.List.{append-nil, length-append}
use Rattle.std.specs.List.Sorted.{IsPermutation}
use Rattle.std.proofs.lemmas.List.Sorted.{IsPermutation-trans, IsPermutation-sym, IsPermutation-to_front, IsPermutation-middle, IsPermutation-append_left}
use Rattle.std.proofs.lemmas.List.Elements.{Contains-append_left, Contains-append_right, Contains-append_cases}
use Rattle.braid_tree.specs.declared.at.At.{At}
use Rattle.braid_tree.specs.Rows.{RowDeletion, PutsOne}

-- at the end is somewhere
pub puts_at_end : {A : Type 0} (old : List A) (x : A) → PutsOne old x (old ++ x ∷ [])
puts_at_end old x = (old, [], sym (append-nil old), refl)

contains_head : {A : Type 0} (x : A) (xs : List A) → Contains (x ∷ xs) x
contains_head x xs = (0, omega arith, refl)

contains_tail : {A : Type 0} (x y : A) (xs : List A) → Contains xs y → Contains (x ∷ xs) y
contains_tail x y xs (k, l, e) = (suc k, omega (arith, l), e)

contains_cases : {A : Type 0} (x y : A) (xs : List A) → Contains (x ∷ xs) y → Contains xs y ⊎ (y ≡ x)
contains_cases x y xs (zero, l, e) = inr (sym e)
contains_cases x y xs (suc k, l, e) = inl (k, omega (arith, l), e)

-- the new list has the members of the old one and the one that was put
pub puts_members : {A : Type 0} (old new : List A) (x : A) → PutsOne old x new → (y : A) → Contains new y ↔ (Contains old y ⊎ (y ≡ x))
puts_members {A} old new x (front, back, e, f) y = (λ c. there (subst (λ t. Contains t y) f c), back_from)
  where
    in_old : Contains (front ++ back) y → Contains old y
    in_old c = subst (λ t. Contains t y) (sym e) c

    there : Contains (front ++ x ∷ back) y → Contains old y ⊎ (y ≡ x)
    there c = elim (Contains-append_cases front (x ∷ back) y c) [
      | inl a ↦ inl (in_old (Contains-append_left front back y a))
      | inr b ↦ elim (contains_cases x y back b) [
        | inl d ↦ inl (in_old (Contains-append_right front back y d))
        | inr s ↦ inr s
      ]
    ]

    put : Contains (front ++ back) y → Contains (front ++ x ∷ back) y
    put c = elim (Contains-append_cases front back y c) [
      | inl a ↦ Contains-append_left front (x ∷ back) y a
      | inr b ↦ Contains-append_right front (x ∷ back) y (contains_tail x y back b)
    ]

    back_from : Contains old y ⊎ (y ≡ x) → Contains new y
    back_from (inl c) = subst (λ t. Contains t y) (sym f) (put (subst (λ t. Contains t y) e c))
    back_from (inr s) = subst (λ t. Contains t y) (sym f) (Contains-append_right front (x ∷ back) y (subst (Contains (x ∷ back)) (sym s) (contains_head x back)))

-- and one more of them
pub puts_length : {A : Type 0} (old new : List A) (x : A) → PutsOne old x new → length new ≡ length old + 1
puts_length old new x (front, back, e, f) =
    let a : length new ≡ length front + length (x ∷ back) = ap length f ∙ length-append front (x ∷ back) in
    let b : length old ≡ length front + length back = ap length e ∙ length-append front back in omega (arith, a, b)

-- the new list is the old one with x behind it, in some order
pub puts_permuted : {A : Type 0} (old new : List A) (x : A) → PutsOne old x new → IsPermutation (old ++ x ∷ []) new
puts_permuted old new x (front, back, e, f) =
    IsPermutation-trans (old ++ x ∷ []) (x ∷ old) new (IsPermutation-to_front old x)
    (subst (IsPermutation (x ∷ old)) (sym f) (subst (λ t. IsPermutation (x ∷ t) (front ++ x ∷ back)) (sym e) (IsPermutation-sym (front ++ x ∷ back) (x ∷ (front ++ back)) (IsPermutation-middle front x back))))

-- one more behind those that were put
pub permuted_more : {A : Type 0} (done old new : List A) (x : A) → IsPermutation done old → PutsOne old x new → IsPermutation (done ++ x ∷ []) new
permuted_more done old new x same put =
    IsPermutation-trans (done ++ x ∷ []) (old ++ x ∷ []) new (IsPermutation-append_left (x ∷ []) done old same) (puts_permuted old new x put)

-- the deletion of the element at a place by a version
abbrev pub deletion_at : ℕ → At → RowDeletion
deletion_at by p = record { at = p; by = by }
