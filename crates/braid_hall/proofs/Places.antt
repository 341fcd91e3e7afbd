-- Places of lists, and sums over them.
use Rattle.std.proofs.Common.{◌≡◌, ℕ, zero, suc, ◌+◌, ◌<◌, ◌≤◌, ◌≢◌, ◌⊎◌, Bool, true, false, List, [], ◌∷◌, ◌++◌, length, set, sym, refl, ap, ◌∙◌, subst, ⊎_elim, inl, inr, arith}
use mathlib.Core.Option.{some, some-injective, some-ne-none}
use lib.ListN.{get_elem?}
use Rattle.std.specs.Prelude.{Option, Some, None}
use Rattle.atomic_table.proofs.Lists.{at_set}
use Rattle.braid_hall.specs.Views.{total, one_if}

abbrev or_zero : Option ℕ → ℕ
or_zero None = 0
or_zero (Some n) = n

pub same_number : (a b : ℕ) → Some a ≡ Some b → a ≡ b
same_number a b e = ap or_zero e

module _ {A : Type 0} where
  pub at_inside : (l : List A) (i : ℕ) (a : A) → get_elem? l i ≡ some a → i < length l
  at_inside [] i a e = absurd (some-ne-none a (sym e))
  at_inside (x ∷ xs) zero a e = omega arith
  at_inside (x ∷ xs) (suc i) a e = let r = at_inside xs i a e in omega arith

  pub at_one : (l : List A) (i : ℕ) (a b : A) → get_elem? l i ≡ some a → get_elem? l i ≡ some b → a ≡ b
  at_one l i a b e f = some-injective a b (sym e ∙ f)

  -- a fact of each place, where one place has another value
  pub each_set : (K : ℕ → A → Type 0) (l : List A) (i : ℕ) (w : A) → K i w → ((j : ℕ) (d : A) → j ≢ i → get_elem? l j ≡ some d → K j d)
      → (j : ℕ) (d : A) → get_elem? (set l i w) j ≡ some d → K j d
  each_set K l i w here others j d e = ⊎_elim (λ (t : (j ≡ i) × (w ≡ d)). subst (λ (x : ℕ × A). K x.0 x.1) (λ k. (sym t.0 k, t.1 k)) here)
      (λ (t : (j ≢ i) × (get_elem? l j ≡ some d)). others j d t.0 t.1) (at_set l i j w d e)

  pub total_set : (f : A → ℕ) (l : List A) (i : ℕ) (v w : A) → get_elem? l i ≡ some v → total f (set l i w) + f v ≡ total f l + f w
  total_set f [] i v w e = absurd (some-ne-none v (sym e))
  total_set f (x ∷ xs) zero v w e = let is : f x ≡ f v = ap f (some-injective x v e) in omega arith
  total_set f (x ∷ xs) (suc i) v w e = let r = total_set f xs i v w e in omega arith

  pub total_few : (f : A → ℕ) → ((x : A) → f x ≤ 1) → (l : List A) → total f l ≤ length l
  total_few f b [] = omega arith
  total_few f b (x ∷ xs) = let r = total_few f b xs in let h = b x in omega arith

  pub at_snoc_place : (l : List A) (a b : A) (j : ℕ) → get_elem? (l ++ a ∷ []) j ≡ some b → (get_elem? l j ≡ some b) ⊎ ((j ≡ length l) × (a ≡ b))
  at_snoc_place [] a b zero e = inr (refl, some-injective a b e)
  at_snoc_place [] a b (suc j) e = absurd (some-ne-none b (sym e))
  at_snoc_place (x ∷ xs) a b zero e = inl e
  at_snoc_place (x ∷ xs) a b (suc j) e = ⊎_elim (λ h. inl h) (λ (t : (j ≡ length xs) × (a ≡ b)). inr (ap suc t.0, t.1)) (at_snoc_place xs a b j e)

  pub total_snoc : (f : A → ℕ) (l : List A) (a : A) → total f (l ++ a ∷ []) ≡ total f l + f a
  total_snoc f [] a = omega arith
  total_snoc f (x ∷ xs) a = let r = total_snoc f xs a in omega arith

  pub there_is : (l : List A) (j : ℕ) → j < length l → (a : A) × (get_elem? l j ≡ some a)
  there_is [] j h = absurd (omega arith)
  there_is (x ∷ xs) zero h = (x, refl)
  there_is (x ∷ xs) (suc j) h = there_is xs j (omega arith)

  pub none_total : (f : A → ℕ) (l : List A) → ((j : ℕ) (a : A) → get_elem? l j ≡ some a → f a ≡ 0) → total f l ≡ 0
  none_total f [] h = refl
  none_total f (x ∷ xs) h = let a = h 0 x refl in let b = none_total f xs (λ j y e. h (suc j) y e) in omega arith

  pub one_total : (f : A → ℕ) (l : List A) (i : ℕ) (a : A) → get_elem? l i ≡ some a → ((j : ℕ) (d : A) → get_elem? l j ≡ some d → j ≢ i → f d ≡ 0) → total f l ≡ f a
  one_total f [] i a e h = absurd (some-ne-none a (sym e))
  one_total f (x ∷ xs) zero a e h = let s = ap f (some-injective x a e) in let r = none_total f xs (λ j d g. h (suc j) d g (λ (z : suc j ≡ 0). omega arith)) in omega arith
  one_total f (x ∷ xs) (suc i) a e h = let z = h 0 x refl (λ (z : 0 ≡ suc i). omega arith) in let r = one_total f xs i a e (λ j d g ne. h (suc j) d g (λ q. ne (omega arith))) in omega arith

pub one_at_most : (b : Bool) → one_if b ≤ 1
one_at_most true = omega arith
one_at_most false = omega arith
