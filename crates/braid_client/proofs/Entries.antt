-- Of two lists of updates that make no replica, one entry is the first in the way.
use Rattle.std.proofs.Common.{◌≡◌, inl, inr, zero, suc, ℕ, ◌+◌, ◌-◌, ◌≤◌, ◌<◌, List, [], ◌∷◌, ◌++◌, length, take, drop, reverse, refl, sym, ap, subst, ◌∙◌, append-nil, append_assoc, length-append, arith}
use Rattle.std.proofs.lemmas.List.{reverse-append, take-append-drop, take-take}
use Rattle.std.proofs.lemmas.Bool.{cases_lt}
use Rattle.braid_change.specs.Updates.{UpdateView}
use Rattle.braid_text.specs.Histories.{IsLegal, IsLegalLog, elements_of, deletions_of}
use Rattle.braid_text.proofs.Logs.{legal_back}
use Rattle.braid_outbox.specs.declared.faults.BadReplica.TheVariants.{Entry}
use Rattle.braid_outbox.specs.Replicas.{IsChained}
use Rattle.braid_outbox.specs.Made.{IsFine, IsFineTo, IsFirstBad, MakesReplica, IsBadReplica}
use Rattle.braid_outbox.proofs.Keeping.{elements_grow, deletions_grow}

take_none : {X : Type 0} (n : ℕ) → take {A = X} n [] ≡ []
take_none zero = refl
take_none (suc n) = refl

-- a front of two lists together
take_both : {X : Type 0} (xs ys : List X) (n : ℕ) → take n (xs ++ ys) ≡ take n xs ++ take (n - length xs) ys
take_both [] ys n = ap (λ m. take m ys) less ∙ ap (λ z. z ++ take (n - 0) ys) (sym (take_none n))
  where
    less : n ≡ n - 0
    less = omega arith
take_both (x ∷ xs) ys zero = ap (λ m. take m ys) none
  where
    none : 0 ≡ 0 - length (x ∷ xs)
    none = omega arith
take_both (x ∷ xs) ys (suc n) = ap (λ z. x ∷ z) (take_both xs ys n) ∙ ap (λ m. x ∷ (take n xs ++ take m ys)) less
  where
    less : n - length xs ≡ suc n - length (x ∷ xs)
    less = omega arith

-- the front of a legal history is legal
legal_front : (H K : List UpdateView) → IsLegal (H ++ K) → IsLegal H
legal_front H K legal = legal_back (reverse K) (reverse H) (subst IsLegalLog (reverse-append H K) legal)

elements_front : (K H : List UpdateView) → length (elements_of H) ≤ length (elements_of (H ++ K))
elements_front [] H = let e = ap (λ (t : List UpdateView). length (elements_of t)) (append-nil H) in omega (arith, e)
elements_front (u ∷ K) H =
    let g = elements_grow H u in
    let k = elements_front K (H ++ u ∷ []) in
    let e = ap (λ (t : List UpdateView). length (elements_of t)) (append_assoc H (u ∷ []) K) in
    omega (arith, g, k, e)

deletions_front : (K H : List UpdateView) → length (deletions_of H) ≤ length (deletions_of (H ++ K))
deletions_front [] H = let e = ap (λ (t : List UpdateView). length (deletions_of t)) (append-nil H) in omega (arith, e)
deletions_front (u ∷ K) H =
    let g = deletions_grow H u in
    let k = deletions_front K (H ++ u ∷ []) in
    let e = ap (λ (t : List UpdateView). length (deletions_of t)) (append_assoc H (u ∷ []) K) in
    omega (arith, g, k, e)

chained_front : (n : ℕ) (us : List UpdateView) → IsChained us → IsChained (take n us)
chained_front zero us h = tt
chained_front (suc n) [] h = tt
chained_front (suc zero) (u ∷ us) h = (tt, tt)
chained_front (suc (suc n)) (u ∷ []) h = h
chained_front (suc (suc n)) (u ∷ w ∷ us) h = (h.0, chained_front (suc n) (w ∷ us) h.1)

-- The first entries of both lists: they are the first of the two together.
to_both : (C O : List UpdateView) (n : ℕ) → take n (C ++ O) ≡ take n C ++ take (n - length C) O
to_both C O n = take_both C O n

-- Fewer entries of lists that are fine are fine.
fine_fewer : (C O : List UpdateView) (k m : ℕ) → k ≤ m → IsFineTo C O m → IsFineTo C O k
fine_fewer C O k m l fine = record {
  legal = subst IsLegal here (legal_front (take k all) (drop k all) (subst IsLegal (sym whole ∙ sym split) fine.legal));
  chained = subst IsChained (take-take (k - length C) (m - length C) O few) (chained_front (k - length C) (take (m - length C) O) fine.chained);
  versions = let a = ap length here in let b = ap length split in let d = length-append (take k all) (drop k all) in let v = ap length whole in let f = fine.versions in omega (arith, a, b, d, v, f);
  elements = let e = elements_front (drop k all) (take k all) in let a = counted elements_of here in let b = counted elements_of split in let v = counted elements_of whole in let f = fine.elements in omega (arith, e, a, b, v, f);
  deletions = let e = deletions_front (drop k all) (take k all) in let a = counted deletions_of here in let b = counted deletions_of split in let v = counted deletions_of whole in let f = fine.deletions in omega (arith, e, a, b, v, f);
}
  where
    all : List UpdateView
    all = take m (C ++ O)

    few : k - length C ≤ m - length C
    few = omega (arith, l)

    here : take k all ≡ take k C ++ take (k - length C) O
    here = take-take k m (C ++ O) l ∙ to_both C O k

    split : take k all ++ drop k all ≡ all
    split = take-append-drop k all

    whole : all ≡ take m C ++ take (m - length C) O
    whole = to_both C O m

    counted : {X : Type 0} {us vs : List UpdateView} (f : List UpdateView → List X) → us ≡ vs → length (f us) ≡ length (f vs)
    counted f e = ap (λ (t : List UpdateView). length (f t)) e

-- The whole of both lists is their first entries, as many as there are.
whole_to : (C O : List UpdateView) (n : ℕ) → length (C ++ O) ≤ n → IsFine C O → IsFineTo C O n
whole_to C O n l fine =
    let few = length-append C O in
    let a : take n C ≡ C = all_taken n C (omega (arith, l, few)) in
    let b : take (n - length C) O ≡ O = all_taken (n - length C) O (omega (arith, l, few)) in
    subst (λ (t : List UpdateView). IsFine t (take (n - length C) O)) (sym a) (subst (IsFine C) (sym b) fine)
  where
    all_taken : (k : ℕ) (us : List UpdateView) → length us ≤ k → take k us ≡ us
    all_taken zero [] h = refl
    all_taken zero (u ∷ us) h = absurd (omega (arith, h))
    all_taken (suc k) [] h = refl
    all_taken (suc k) (u ∷ us) h = ap (λ z. u ∷ z) (all_taken k us (omega (arith, h)))

-- lists that are fine have no first entry in the way
fine_or_bad : (C O : List UpdateView) (n : ℕ) → IsFine C O → IsFirstBad C O n → ⊥
fine_or_bad C O n fine bad = bad.bad (fine_fewer C O (n + 1) (length (C ++ O)) (let t = bad.there in omega (arith, t)) (whole_to C O (length (C ++ O)) (omega arith) fine))

first_not_before : (C O : List UpdateView) (n m : ℕ) → IsFirstBad C O n → IsFirstBad C O m → n < m → ⊥
first_not_before C O n m h k l = h.bad (fine_fewer C O (n + 1) m (omega (arith, l)) k.before)

one_first : (C O : List UpdateView) (n m : ℕ) → IsFirstBad C O n → IsFirstBad C O m → n ≡ m
one_first C O n m h k = elim (cases_lt n m) [
  | inl l ↦ absurd (first_not_before C O n m h k l)
  | inr l ↦ elim (cases_lt m n) [ inl i ↦ absurd (first_not_before C O m n k h i) | inr i ↦ (let e : n ≡ m = omega (arith, l, i) in e) ]
]

-- The entry that is named is one.
pub one_entry : (C O : List UpdateView) (n m : ℕ) → IsBadReplica C O (Entry n) → IsBadReplica C O (Entry m) → n ≡ m
one_entry C O n m (inl h) (inl k) = one_first C O n m h k
one_entry C O n m (inl h) (inr k) = absurd (fine_or_bad C O n k.fine h)
one_entry C O n m (inr h) (inl k) = absurd (fine_or_bad C O m h.fine k)
one_entry C O n m (inr h) (inr k) = let e = h.last in let f = k.last in omega (arith, e, f)

-- Lists that make a replica have none in the way.
pub no_entry : (C O : List UpdateView) (n : ℕ) → MakesReplica C O → IsBadReplica C O (Entry n) → ⊥
no_entry C O n makes (inl h) = fine_or_bad C O n makes.fine h
no_entry C O n makes (inr h) = let w = h.wide in let l = makes.narrow in omega (arith, w, l)
