-- Two fronts of one list.
use Rattle.std.proofs.Common.{◌≡◌, ℕ, zero, suc, ◌≤◌, append-nil, List, [], ◌∷◌, ◌++◌, inl, inr, ◌⊎◌, refl, ap, sym, ◌∙◌, length, take, arith, length-append}
use Rattle.std.proofs.lemmas.List.{nil_from_length}

-- one of two fronts begins with the other
pub compare : {A : Type 0} → (p r q s : List A) → p ++ r ≡ q ++ s → ((x : List A) × (q ≡ p ++ x)) ⊎ ((x : List A) × (p ≡ q ++ x))
compare [] r q s e = inl (q, refl)
compare (a ∷ p) r [] s e = inr (a ∷ p, refl)
compare (a ∷ p) r (b ∷ q) s e =
    let first : a ≡ b = cc in
    let others : p ++ r ≡ q ++ s = cc in
    let back = sym first in
    elim (compare p r q s others) [ inl k ↦ inl (k.0, λ i. back i ∷ k.1 i) | inr k ↦ inr (k.0, λ i. first i ∷ k.1 i) ]

-- the longer one begins with the other
pub shorter_front : {A : Type 0} → (p r q s : List A) → p ++ r ≡ q ++ s → length p ≤ length q → (x : List A) × (q ≡ p ++ x)
shorter_front [] r q s e h = (q, refl)
shorter_front (a ∷ p) r [] s e h = absurd (omega (arith, h))
shorter_front (a ∷ p) r (b ∷ q) s e h =
    let first : a ≡ b = cc in
    let others : p ++ r ≡ q ++ s = cc in
    let back = sym first in
    let k = shorter_front p r q s others (omega (arith, h)) in
    (k.0, λ i. back i ∷ k.1 i)

-- lists of which each begins with the other are one
pub same_both : {A : Type 0} → (p q x y : List A) → q ≡ p ++ x → p ≡ q ++ y → p ≡ q
same_both p q x y e f =
    let n = ap length e ∙ length-append p x in
    let m = ap length f ∙ length-append q y in
    let z : x ≡ [] = nil_from_length x (omega (arith, n, m)) in
    sym (e ∙ ap (λ t. p ++ t) z ∙ append-nil p)

-- what is put behind and leaves the list as it was is nothing
pub no_more : {A : Type 0} → (p x : List A) → p ≡ p ++ x → x ≡ []
no_more p x e = let n = ap length e ∙ length-append p x in nil_from_length x (omega (arith, n))

-- the first n of a longer list begin with those of a shorter one
pub take_grows : {A : Type 0} → (n : ℕ) (c y : List A) → (z : List A) × (take n (c ++ y) ≡ take n c ++ z)
take_grows zero c y = ([], refl)
take_grows (suc n) [] y = (take (suc n) y, refl)
take_grows (suc n) (a ∷ c) y = let k = take_grows n c y in (k.0, ap (λ t. a ∷ t) k.1)
