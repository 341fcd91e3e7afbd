-- Agents' names: which number a name is of, whose it is, and that the next name is new.
use Rattle.std.proofs.Common.{◌≡◌, ℕ, ◌<◌, ◌≤◌, ◌+◌, ◌^◌, List, [], ◌∷◌, ◌++◌, Bool, true, false, ◌&&◌, nat_lt, cond, refl, sym, ap, subst, ◌∙◌, inl, inr, arith, length, drop, Option, Some, None, unwrap_or, is_some, suc}
use Rattle.std.specs.Prelude.{decimal}
use Rattle.std.specs.Str.Parse.{digits_value}
use Rattle.std.proofs.lemmas.Fmt.{decimal_is_IsNumeral}
use Rattle.std.specs.Ordering.{is_eq}
use Rattle.braid_ids.specs.Identifiers.{id_cmp}
use Rattle.braid_ids.specs.Agents.{IsAgent, agent_name}
use Rattle.braid_ids.proofs.Named.{author_same}
use Rattle.braid_change.specs.Updates.{UpdateView}
use Rattle.braid_tree.specs.Trees.{Member}
use Rattle.braid_tree.proofs.Keys.{ids_strict, eq_true, eq_itself}
use Rattle.braid_text.proofs.Whole.{and_cases}
use Rattle.braid_text.proofs.Same.{and_true}
use Rattle.braid_outbox.specs.Replicas.{number, greatest_number}
use Rattle.braid_outbox.proofs.Shapes.{lt_to, lt_from}

drop_name : (a : List ℕ) (ds : List ℕ) → drop (length a + 1) (a ++ 45 ∷ ds) ≡ ds
drop_name [] ds = refl
drop_name (x ∷ a) ds = ap (λ (n : ℕ). drop n (x ∷ (a ++ 45 ∷ ds))) (let e : length (x ∷ a) + 1 ≡ suc (length a + 1) = omega arith in e) ∙ drop_name a ds

-- the number of a name
pub number_name : (a : List ℕ) (k : ℕ) → 0 < k → k < 2 ^ 64 → number a (agent_name a k) ≡ Some k
number_name a k pos small = ap (λ (n : ℕ). cond (test n) (Some n) None) value ∙ ap (λ (b : Bool). cond b (Some k) None) holds
  where
    test : ℕ → Bool
    test n = nat_lt 0 n && (nat_lt n (2 ^ 64) && is_eq (id_cmp (agent_name a k) (agent_name a n)))

    value : digits_value 10 (drop (length a + 1) (agent_name a k)) ≡ k
    value = ap (digits_value 10) (drop_name a (decimal k)) ∙ (decimal_is_IsNumeral k small).1

    holds : test k ≡ true
    holds = and_true (nat_lt 0 k) (nat_lt k (2 ^ 64) && is_eq (id_cmp (agent_name a k) (agent_name a k))) (lt_to 0 k pos)
        (and_true (nat_lt k (2 ^ 64)) (is_eq (id_cmp (agent_name a k) (agent_name a k))) (lt_to k (2 ^ 64) small) (eq_itself id_cmp ids_strict (agent_name a k)))

-- an identifier with a number is the name for it
pub number_is : (a : List ℕ) (v : List ℕ) (k : ℕ) → number a v ≡ Some k → (v ≡ agent_name a k) × (0 < k) × (k < 2 ^ 64)
number_is a v k h = go (digits_value 10 (drop (length a + 1) v)) h
  where
    test : ℕ → Bool
    test n = nat_lt 0 n && (nat_lt n (2 ^ 64) && is_eq (id_cmp v (agent_name a n)))

    go : (n : ℕ) → cond (test n) (Some n) None ≡ Some k → (v ≡ agent_name a k) × (0 < k) × (k < 2 ^ 64)
    go n h = by (test n) refl h
      where
        by : (b : Bool) → test n ≡ b → cond b (Some n) None ≡ Some k → (v ≡ agent_name a k) × (0 < k) × (k < 2 ^ 64)
        by true t h = let e : n ≡ k = cc in
            let p = and_cases (nat_lt 0 n) (nat_lt n (2 ^ 64) && is_eq (id_cmp v (agent_name a n))) t in
            let q = and_cases (nat_lt n (2 ^ 64)) (is_eq (id_cmp v (agent_name a n))) p.1 in
            subst (λ (m : ℕ). (v ≡ agent_name a m) × (0 < m) × (m < 2 ^ 64)) e (eq_true id_cmp ids_strict v (agent_name a n) q.1, lt_from 0 n p.0, lt_from n (2 ^ 64) q.0)
        by false t h = cc

-- the identifier is a name of the agent
abbrev pub IsName : List ℕ → List ℕ → Type 0
IsName a v = (k : ℕ) × (v ≡ agent_name a k) × (0 < k) × (k < 2 ^ 64)

-- a name is one agent's
pub one_agent : (a b : List ℕ) (v : List ℕ) → IsAgent a → IsAgent b → IsName a v → IsName b v → a ≡ b
one_agent a b v is_a is_b (k, e, p, l) (j, f, q, m) = (author_same a b k j is_a is_b l m (sym e ∙ f)).0

pub name_numbered : (a : List ℕ) (v : List ℕ) → IsName a v → is_some (number a v) ≡ true
name_numbered a v (k, e, p, l) = ap (λ (i : List ℕ). is_some (number a i)) e ∙ ap is_some (number_name a k p l)

pub least_number : (a : List ℕ) (us : List UpdateView) (u : UpdateView) (k : ℕ) → Member u us → number a u.id ≡ Some k → k ≤ greatest_number a us
least_number a [] u k m h = absurd m
least_number a (w ∷ us) u k (inl e) h = let f : unwrap_or (number a w.id) 0 ≡ k = ap (λ (t : UpdateView). unwrap_or (number a t.id) 0) e ∙ ap (λ (o : Option ℕ). unwrap_or o 0) h in omega (arith, f)
least_number a (w ∷ us) u k (inr m) h = let g : k ≤ greatest_number a us = least_number a us u k m h in omega (arith, g)

-- no update of the list has the agent's next name
pub next_new : (a : List ℕ) (us : List UpdateView) (u : UpdateView) → 1 + greatest_number a us < 2 ^ 64 → Member u us → u.id ≡ agent_name a (1 + greatest_number a us) → ⊥
next_new a us u small m e = let g : 1 + greatest_number a us ≤ greatest_number a us = least_number a us u (1 + greatest_number a us) m (ap (number a) e ∙ number_name a (1 + greatest_number a us) (omega arith) small) in omega (arith, g)

-- with the next name the greatest number is one more
pub next_greatest : (a : List ℕ) (us : List UpdateView) (u : UpdateView) → 1 + greatest_number a us < 2 ^ 64 → u.id ≡ agent_name a (1 + greatest_number a us) → greatest_number a (u ∷ us) ≡ 1 + greatest_number a us
next_greatest a us u small e = let f : unwrap_or (number a u.id) 0 ≡ 1 + greatest_number a us = ap (λ (o : Option ℕ). unwrap_or o 0) (ap (number a) e ∙ number_name a (1 + greatest_number a us) (omega arith) small) in omega (arith, f)
