-- Elements of lists.
use Rattle.std.proofs.Common.{◌≡◌, ℕ, zero, suc, ◌≢◌, ◌⊎◌, Bool, true, false, cond, eqb, List, [], ◌∷◌, ◌++◌, sym, refl, ◌∙◌, ⊎_elim, inl, inr, arith, true≢false, eq-eqb, ne_eqb}
use Rattle.std.specs.Prelude.{Contains}
use Rattle.std.proofs.lemmas.List.Elements.{Contains-append_left, Contains-append_right, Contains-append_cases}
use Rattle.braid_hall.specs.Histories.{without}

module _ {A : Type 0} where
  pub among_none : (x : A) → Contains [] x → ⊥
  among_none x h = let inside = h.1 in omega arith

  pub among_tail : (x a : A) (l : List A) → Contains l x → Contains (a ∷ l) x
  among_tail x a l h = let inside = h.1 in (suc h.0, omega arith, h.2)

  pub among_cases : (x a : A) (l : List A) → Contains (a ∷ l) x → (a ≡ x) ⊎ Contains l x
  among_cases x a l (zero, inside, e) = inl e
  among_cases x a l (suc i, inside, e) = inr (i, omega arith, e)

  pub among_more : (x : A) (l m : List A) → Contains l x → Contains (l ++ m) x
  among_more x l m a = Contains-append_left l m x a

  pub among_last : (x : A) (l : List A) → Contains (l ++ x ∷ []) x
  among_last x l = Contains-append_right l (x ∷ []) x (0, omega arith, refl)

  pub among_split : (x a : A) (l : List A) → Contains (l ++ a ∷ []) x → Contains l x ⊎ (a ≡ x)
  among_split x a l h = ⊎_elim (λ c. inl c) (λ c. ⊎_elim (λ e. inr e) (λ c. absurd (among_none x c)) (among_cases x a [] c)) (Contains-append_cases l (a ∷ []) x h)

keeps_one : (n j x : ℕ) (xs : List ℕ) (b : Bool) → eqb x n ≡ b → j ≢ n → Contains (x ∷ xs) j → (Contains xs j → Contains (without n xs) j) → Contains (cond b (without n xs) (x ∷ without n xs)) j
keeps_one n j x xs true e ne a go = ⊎_elim (λ (s : x ≡ j). absurd (true≢false (sym e ∙ ne_eqb x n (λ h. ne (sym s ∙ h))))) go (among_cases j x xs a)
keeps_one n j x xs false e ne a go = ⊎_elim (λ (s : x ≡ j). (0, omega arith, s)) (λ h. among_tail j x (without n xs) (go h)) (among_cases j x xs a)

pub without_keeps : (n j : ℕ) (xs : List ℕ) → j ≢ n → Contains xs j → Contains (without n xs) j
without_keeps n j [] ne a = a
without_keeps n j (x ∷ xs) ne a = keeps_one n j x xs (eqb x n) refl ne a (without_keeps n j xs ne)

has_one : (n j x : ℕ) (xs : List ℕ) (b : Bool) → eqb x n ≡ b → (Contains (without n xs) j → (j ≢ n) × Contains xs j) → Contains (cond b (without n xs) (x ∷ without n xs)) j → (j ≢ n) × Contains (x ∷ xs) j
has_one n j x xs true e go a = let r = go a in (r.0, among_tail j x xs r.1)
has_one n j x xs false e go a = ⊎_elim (λ (s : x ≡ j). ((λ h. true≢false (sym (eq-eqb x n (s ∙ h)) ∙ e)), (0, omega arith, s)))
    (λ h. let r = go h in (r.0, among_tail j x xs r.1)) (among_cases j x (without n xs) a)

pub without_has : (n j : ℕ) (xs : List ℕ) → Contains (without n xs) j → (j ≢ n) × Contains xs j
without_has n j [] a = absurd (among_none j a)
without_has n j (x ∷ xs) a = has_one n j x xs (eqb x n) refl (without_has n j xs) a
