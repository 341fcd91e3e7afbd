-- Rising lists of identifiers: what sorting and dropping repeats makes, and that their members tell them apart.
use Rattle.std.proofs.Common.{[], ◌∷◌, arith, ◌≡◌, ℕ, zero, suc, true, List, ◌↔◌, ◌⊎◌, inl, inr, rules, Contains, nat_eq, refl, ap, sym, ◌∙◌, subst}
use Rattle.std.specs.Ordering.{nat_cmp, ordering_reverse}
use Rattle.std.specs.declared.cmp.Ordering.TheVariants.{Less, Greater}
use Rattle.std.specs.Cmp.Rules.{comparing}
use Rattle.std.specs.Cmp.Lexicographic.{slice_cmp, pointwise, pointwise_decides}
use Rattle.std.proofs.lemmas.Bool.Decides.{Decides-eqb}
use Rattle.std.specs.List.{dedup, AllByRecursion}
use Rattle.std.specs.List.Sorted.{IsSorted, IsPermutation, IsStrictlySortedBy}
use Rattle.std.proofs.lemmas.Cmp.{nat_list_cmp_total, nat_list_eq_equiv}
use Rattle.std.proofs.lemmas.List.Kept.{IsStrictlySortedBy-dedup, Contains-dedup, Contains-from_dedup}
use Rattle.std.proofs.lemmas.List.Sorted.{Contains-permutation, IsPermutation-sym}
use Rattle.braid_ids.specs.Identifiers.{id_cmp}
use Rattle.braid_ids.specs.Frontiers.{IsRising}

pub same_bytes : (x y : List ℕ) → pointwise nat_eq x y ≡ true → x ≡ y
same_bytes x y h = (pointwise_decides Decides-eqb x y).0 h

pub rising-dedup : (xs : List (List ℕ)) → IsSorted (slice_cmp nat_cmp) xs → IsRising (dedup (pointwise nat_eq) xs)
rising-dedup xs h = IsStrictlySortedBy-dedup nat_list_cmp_total (search (comparing, rules)) xs h

pub same-dedup : (old sorted : List (List ℕ)) → IsPermutation old sorted → (id : List ℕ) → Contains (dedup (pointwise nat_eq) sorted) id ↔ Contains old id
same-dedup old sorted p id = (
  λ h. Contains-permutation sorted old id (IsPermutation-sym old sorted p) (Contains-from_dedup (pointwise nat_eq) sorted id h),
  λ h. Contains-dedup nat_list_eq_equiv same_bytes sorted id (Contains-permutation old sorted id p h),
)

-- an element of a list is its first one, or one of the others
pub cons_cases : {X : Type 0} (x : X) (xs : List X) (y : X) → Contains (x ∷ xs) y → (x ≡ y) ⊎ Contains xs y
cons_cases x xs y (zero, l, e) = inl e
cons_cases x xs y (suc k, l, e) = inr (k, omega arith, e)

pub cons_first : {X : Type 0} (x : X) (xs : List X) → Contains (x ∷ xs) x
cons_first x xs = (0, omega arith, refl)

pub cons_other : {X : Type 0} (x : X) (xs : List X) (y : X) → Contains xs y → Contains (x ∷ xs) y
cons_other x xs y (k, l, e) = (suc k, omega arith, e)

-- what holds of each element holds of one of them
pub member_of : {X : Type 0} (P : X → Type 0) (xs : List X) (y : X) → AllByRecursion P xs → Contains xs y → P y
member_of P [] y h (k, l, e) = absurd (omega arith)
member_of P (x ∷ xs) y h c = elim (cons_cases x xs y c) [ inl e ↦ subst P e h.0 | inr d ↦ member_of P xs y h.1 d ]

pub below_itself : (x : List ℕ) → id_cmp x x ≡ Less → ⊥
below_itself x h =
    let e : id_cmp x x ≡ ordering_reverse (id_cmp x x) = nat_list_cmp_total.antisymm x x in
    let r : ordering_reverse (id_cmp x x) ≡ Greater = ap ordering_reverse h in
    cc

-- two identifiers are not below each other
pub below_both : (x y : List ℕ) → id_cmp x y ≡ Less → id_cmp y x ≡ Less → ⊥
below_both x y h k = below_itself x (nat_list_cmp_total.trans x y x h k)

-- the first elements of two rising lists with the same members are the same
same_first : (x y : List ℕ) (xs ys : List (List ℕ)) → IsRising (x ∷ xs) → IsRising (y ∷ ys) → ((id : List ℕ) → Contains (x ∷ xs) id ↔ Contains (y ∷ ys) id) → x ≡ y
unfolding IsStrictlySortedBy
same_first x y xs ys r s same =
    elim (cons_cases y ys x ((same x).0 (cons_first x xs))) [
      | inl e ↦ sym e
      | inr c ↦ elim (cons_cases x xs y ((same y).1 (cons_first y ys))) [
        | inl e ↦ e
        | inr d ↦ absurd (below_both x y (member_of (λ z. id_cmp x z ≡ Less) xs y r.0 d) (member_of (λ z. id_cmp y z ≡ Less) ys x s.0 c))
      ]
    ]

-- without a common first element, the members of one are still those of the other
same_others : (x y : List ℕ) (xs ys : List (List ℕ)) → x ≡ y → IsRising (x ∷ xs) → ((id : List ℕ) → Contains (x ∷ xs) id → Contains (y ∷ ys) id) → (id : List ℕ) → Contains xs id → Contains ys id
unfolding IsStrictlySortedBy
same_others x y xs ys e r same id c =
    elim (cons_cases y ys id (same id (cons_other x xs id c))) [
      | inl f ↦ absurd (below_itself x (subst (λ (z : List ℕ). id_cmp x z ≡ Less) (sym (e ∙ f)) (member_of (λ z. id_cmp x z ≡ Less) xs id r.0 c)))
      | inr d ↦ d
    ]

rest_rises : (x : List ℕ) (xs : List (List ℕ)) → IsRising (x ∷ xs) → IsRising xs
unfolding IsStrictlySortedBy
rest_rises x xs r = r.1

-- rising lists with the same members are one list
pub rising_same : (xs ys : List (List ℕ)) → IsRising xs → IsRising ys → ((id : List ℕ) → Contains xs id ↔ Contains ys id) → xs ≡ ys
rising_same [] [] r s same = refl
rising_same [] (y ∷ ys) r s same = let c = (same y).1 (cons_first y ys) in absurd (omega arith)
rising_same (x ∷ xs) [] r s same = let c = (same x).0 (cons_first x xs) in absurd (omega arith)
rising_same (x ∷ xs) (y ∷ ys) r s same =
    let e : x ≡ y = same_first x y xs ys r s same in
    let tail : xs ≡ ys = rising_same xs ys (rest_rises x xs r) (rest_rises y ys s) (λ id. (
      same_others x y xs ys e r (λ id. (same id).0) id,
      same_others y x ys xs (sym e) s (λ id. (same id).1) id,
    )) in
    (λ i. e i ∷ tail i)
