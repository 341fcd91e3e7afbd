-- The history that updates leave: each of them once.
use Rattle.std.proofs.Common.{◌≡◌, ◌↔◌, arith, List, [], ◌∷◌, ◌++◌, Bool, true, false, cond, reverse, refl, sym, ap, subst, ◌∙◌, inl, inr, ◌⊎◌}
use Rattle.std.specs.List.{list_any, Contains}
use Rattle.std.proofs.lemmas.List.{reverse-append}
use Rattle.std.proofs.lemmas.List.Sorted.{IsPermutation-reverse, IsPermutation-sym, Contains-permutation}
use Rattle.braid_ids.proofs.Rising.{cons_first, cons_other, cons_cases}
use Rattle.braid_change.specs.Updates.{UpdateView}
use Rattle.braid_text.specs.Refusals.{same_update}
use Rattle.braid_text.proofs.Judged.{updates_Decide}
use Rattle.braid_check.specs.Accepted.{once_in, history_of}

to_reverse : (us : List UpdateView) (u : UpdateView) → Contains us u → Contains (reverse us) u
to_reverse us u c = Contains-permutation us (reverse us) u (IsPermutation-reverse us) c

from_reverse : (us : List UpdateView) (u : UpdateView) → Contains (reverse us) u → Contains us u
from_reverse us u c = Contains-permutation (reverse us) us u (IsPermutation-sym us (reverse us) (IsPermutation-reverse us)) c

-- whether an update is one of these, by the test
any_contains : (u : UpdateView) (us : List UpdateView) → list_any (same_update u) us ≡ true → Contains us u
any_contains u [] h = absurd (cc)
any_contains u (w ∷ us) h = go (same_update u w) refl (λ t. any_contains u us t)
  where
    go : (b : Bool) → same_update u w ≡ b → (list_any (same_update u) us ≡ true → Contains us u) → Contains (w ∷ us) u
    go true e k = subst (Contains (w ∷ us)) (sym ((updates_Decide u w).0 e)) (cons_first w us)
    go false e k = cons_other w us u (k (cc))

contains_any : (u : UpdateView) (us : List UpdateView) → Contains us u → list_any (same_update u) us ≡ true
contains_any u [] (k, l, e) = absurd (omega (arith, l))
contains_any u (w ∷ us) c = go (same_update u w) refl (cons_cases w us u c) (λ k. contains_any u us k)
  where
    go : (b : Bool) → same_update u w ≡ b → (w ≡ u) ⊎ Contains us u → (Contains us u → list_any (same_update u) us ≡ true) → list_any (same_update u) (w ∷ us) ≡ true
    go true e m k = cc
    go false e (inl s) k = let t : same_update u w ≡ true = (updates_Decide u w).1 (sym s) in cc
    go false e (inr c) k = let t = k c in cc

-- of an update and those before it
once_more : (u : UpdateView) (us : List UpdateView) (b : Bool) → list_any (same_update u) us ≡ b → once_in (u ∷ us) ≡ cond b (once_in us) (u ∷ once_in us)
once_more u us b e = ap (λ (b : Bool). cond b (once_in us) (u ∷ once_in us)) e

once_from : (us : List UpdateView) (x : UpdateView) → Contains (once_in us) x → Contains us x
once_from [] x c = c
once_from (u ∷ us) x c = go (list_any (same_update u) us) refl (λ k. once_from us x k)
  where
    go : (b : Bool) → list_any (same_update u) us ≡ b → (Contains (once_in us) x → Contains us x) → Contains (u ∷ us) x
    go true e f = cons_other u us x (f (subst (λ (t : List UpdateView). Contains t x) (once_more u us true e) c))
    go false e f = elim (cons_cases u (once_in us) x (subst (λ (t : List UpdateView). Contains t x) (once_more u us false e) c)) [
      | inl s ↦ subst (Contains (u ∷ us)) s (cons_first u us)
      | inr k ↦ cons_other u us x (f k)
    ]

once_to : (us : List UpdateView) (x : UpdateView) → Contains us x → Contains (once_in us) x
once_to [] x c = c
once_to (u ∷ us) x c = go (list_any (same_update u) us) refl (cons_cases u us x c) (λ y k. once_to us y k)
  where
    go : (b : Bool) → list_any (same_update u) us ≡ b → (u ≡ x) ⊎ Contains us x → ((y : UpdateView) → Contains us y → Contains (once_in us) y) → Contains (once_in (u ∷ us)) x
    go true e (inl s) f = subst (λ (t : List UpdateView). Contains t x) (sym (once_more u us true e)) (f x (subst (Contains us) s (any_contains u us e)))
    go true e (inr k) f = subst (λ (t : List UpdateView). Contains t x) (sym (once_more u us true e)) (f x k)
    go false e (inl s) f = subst (λ (t : List UpdateView). Contains t x) (sym (once_more u us false e)) (subst (Contains (u ∷ once_in us)) s (cons_first u (once_in us)))
    go false e (inr k) f = subst (λ (t : List UpdateView). Contains t x) (sym (once_more u us false e)) (cons_other u (once_in us) x (f x k))

-- the history has the updates and no others
pub once_exact : (us : List UpdateView) (u : UpdateView) → Contains (history_of us) u ↔ Contains us u
once_exact us u = (
  λ c. from_reverse us u (once_from (reverse us) u (from_reverse (once_in (reverse us)) u c)),
  λ c. to_reverse (once_in (reverse us)) u (once_to (reverse us) u (to_reverse us u c)),
)

push_log : (us : List UpdateView) (u : UpdateView) → reverse (us ++ u ∷ []) ≡ u ∷ reverse us
push_log us u = reverse-append us (u ∷ [])

-- a new update joins at the end
pub once_joins : (us : List UpdateView) (u : UpdateView) → ¬ (Contains us u) → history_of (us ++ u ∷ []) ≡ history_of us ++ u ∷ []
once_joins us u n = ap (λ (l : List UpdateView). reverse (once_in l)) (push_log us u) ∙ ap reverse (go (list_any (same_update u) (reverse us)) refl) ∙ reverse-append (u ∷ []) (once_in (reverse us))
  where
    go : (b : Bool) → list_any (same_update u) (reverse us) ≡ b → once_in (u ∷ reverse us) ≡ u ∷ once_in (reverse us)
    go true e = absurd (n (from_reverse us u (any_contains u (reverse us) e)))
    go false e = once_more u (reverse us) false e

-- a known one changes nothing
pub once_passes : (us : List UpdateView) (u : UpdateView) → Contains us u → history_of (us ++ u ∷ []) ≡ history_of us
once_passes us u c = ap (λ (l : List UpdateView). reverse (once_in l)) (push_log us u) ∙ ap reverse (once_more u (reverse us) true (contains_any u (reverse us) (to_reverse us u c)))
