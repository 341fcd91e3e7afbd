-- Where runs begin: the numbers rise, an entry that begins none goes on with the one before it, and one more entry.
use Rattle.std.proofs.Common.{◌≡◌, ℕ, ◌+◌, ◌<◌, ◌≤◌, List, [], ◌∷◌, ◌++◌, Bool, true, false, length, slice_get, Option, Some, None, zero, suc, arith, refl, sym, ap, subst, ◌∙◌, inl, inr, ◌⊎◌, eqb}
use Rattle.std.specs.List.{Contains}
use Rattle.std.proofs.lemmas.Option.{none-some, same_Some, slice_get_within}
use Rattle.std.proofs.lemmas.Bool.{eq-eqb, eqb-true}
use Rattle.braid_ids.proofs.Ids.{eq_true}
use Rattle.braid_ids.proofs.Members.{Member, member_contains}
use Rattle.braid_graph.specs.Entries.{GraphEntry, ids_of}
use Rattle.braid_graph.specs.Runs.{goes_on, starts_from, starts_of, runs_of}
use Rattle.braid_graph.specs.Inside.{last_from, IsRunAfter, begun}

pub goes_true : (before : Option (List ℕ)) (ps : List (List ℕ)) → goes_on before ps ≡ true → (v : List ℕ) × (before ≡ Some v) × (ps ≡ v ∷ [])
goes_true None ps h = cc
goes_true (Some v) [] h = cc
goes_true (Some v) (w ∷ []) h = let same : v ≡ w = eq_true v w h in (v, refl, ap (λ (t : List ℕ). t ∷ []) (sym same))
goes_true (Some v) (w ∷ x ∷ ws) h = cc

-- what begins a run at the first entry, and what does not
pub starts_on : (n : ℕ) (before : Option (List ℕ)) (e : GraphEntry) (es : List GraphEntry) → goes_on before e.parents ≡ true → starts_from n before (e ∷ es) ≡ starts_from (n + 1) (Some e.id) es
starts_on n before e es h = rw h

pub starts_new : (n : ℕ) (before : Option (List ℕ)) (e : GraphEntry) (es : List GraphEntry) → goes_on before e.parents ≡ false → starts_from n before (e ∷ es) ≡ n ∷ starts_from (n + 1) (Some e.id) es
starts_new n before e es h = rw h

two : (b : Bool) → (b ≡ true) ⊎ (b ≡ false)
two true = inl refl
two false = inr refl

pub start_within : (n : ℕ) (before : Option (List ℕ)) (es : List GraphEntry) (k s : ℕ) → slice_get (starts_from n before es) k ≡ Some s → (n ≤ s) × (s < n + length es)
start_within n before [] k s at = absurd (none-some s at)
start_within n before (e ∷ es) k s at = elim (two (goes_on before e.parents)) [
  | inl on ↦ let h = start_within (n + 1) (Some e.id) es k s (subst (λ (t : List ℕ). slice_get t k ≡ Some s) (starts_on n before e es on) at) in (omega (arith, h.0), omega (arith, h.1))
  | inr new ↦ first (start_within (n + 1) (Some e.id) es) k (subst (λ (t : List ℕ). slice_get t k ≡ Some s) (starts_new n before e es new) at)
]
  where
    first : ((k s : ℕ) → slice_get (starts_from (n + 1) (Some e.id) es) k ≡ Some s → (n + 1 ≤ s) × (s < n + 1 + length es)) → (k : ℕ) → slice_get (n ∷ starts_from (n + 1) (Some e.id) es) k ≡ Some s → (n ≤ s) × (s < n + length (e ∷ es))
    first more zero at = let same : n ≡ s = same_Some n s at in (omega arith, omega arith)
    first more (suc k) at = let h = more k s at in (omega (arith, h.0), omega (arith, h.1))

pub starts_rise : (n : ℕ) (before : Option (List ℕ)) (es : List GraphEntry) (k l s t : ℕ) → k < l → slice_get (starts_from n before es) k ≡ Some s → slice_get (starts_from n before es) l ≡ Some t → s < t
starts_rise n before [] k l s t lt a b = absurd (none-some s a)
starts_rise n before (e ∷ es) k l s t lt a b = elim (two (goes_on before e.parents)) [
  | inl on ↦ starts_rise (n + 1) (Some e.id) es k l s t lt (subst (λ (u : List ℕ). slice_get u k ≡ Some s) (starts_on n before e es on) a) (subst (λ (u : List ℕ). slice_get u l ≡ Some t) (starts_on n before e es on) b)
  | inr new ↦ first (starts_rise (n + 1) (Some e.id) es) k l lt (subst (λ (u : List ℕ). slice_get u k ≡ Some s) (starts_new n before e es new) a) (subst (λ (u : List ℕ). slice_get u l ≡ Some t) (starts_new n before e es new) b)
]
  where
    first : ((k l s t : ℕ) → k < l → slice_get (starts_from (n + 1) (Some e.id) es) k ≡ Some s → slice_get (starts_from (n + 1) (Some e.id) es) l ≡ Some t → s < t) → (k l : ℕ) → k < l → slice_get (n ∷ starts_from (n + 1) (Some e.id) es) k ≡ Some s → slice_get (n ∷ starts_from (n + 1) (Some e.id) es) l ≡ Some t → s < t
    first more k zero lt a b = absurd (omega arith)
    first more zero (suc l) lt a b = let same : n ≡ s = same_Some n s a in let h = start_within (n + 1) (Some e.id) es l t b in omega (arith, h.0)
    first more (suc k) (suc l) lt a b = more k l s t (omega arith) a b

-- one number of a start has one place
pub one_place : (es : List GraphEntry) (k l s : ℕ) → slice_get (starts_of es) k ≡ Some s → slice_get (starts_of es) l ≡ Some s → (k < l → ⊥) × (l < k → ⊥)
one_place es k l s a b = (λ h. let r = starts_rise 0 None es k l s s h a b in omega arith, λ h. let r = starts_rise 0 None es l k s s h b a in omega arith)

-- the identifier before the entry with this place
abbrev pub id_before : Option (List ℕ) → List GraphEntry → ℕ → Option (List ℕ)
id_before before es zero = before
id_before before [] (suc m) = before
id_before before (e ∷ es) (suc m) = id_before (Some e.id) es m

pub id_before_is : (before : Option (List ℕ)) (es : List GraphEntry) (m : ℕ) → m < length es → id_before before es (suc m) ≡ slice_get (ids_of es) m
id_before_is before [] m l = absurd (omega arith)
id_before_is before (e ∷ es) zero l = refl
id_before_is before (e ∷ es) (suc m) l = id_before_is (Some e.id) es m (omega arith)

-- an entry begins a run, or goes on
pub begins_or_goes : (n : ℕ) (before : Option (List ℕ)) (es : List GraphEntry) (m : ℕ) (e : GraphEntry) → slice_get es m ≡ Some e → Member (n + m) (starts_from n before es) ⊎ (goes_on (id_before before es m) e.parents ≡ true)
begins_or_goes n before [] m e at = absurd (none-some e at)
begins_or_goes n before (d ∷ es) zero e at = elim (two (goes_on before d.parents)) [
  | inl on ↦ inr (subst (λ (t : GraphEntry). goes_on before t.parents ≡ true) (same_Some d e at) on)
  | inr new ↦ inl (subst (Member (n + 0)) (sym (starts_new n before d es new)) (inl (omega arith)))
]
begins_or_goes n before (d ∷ es) (suc m) e at = elim (begins_or_goes (n + 1) (Some d.id) es m e at) [
  | inl k ↦
      let same : n + 1 + m ≡ n + suc m = omega arith in
      let there : Member (n + suc m) (starts_from (n + 1) (Some d.id) es) = subst (λ (t : ℕ). Member t (starts_from (n + 1) (Some d.id) es)) same k in
      elim (two (goes_on before d.parents)) [
        | inl on ↦ inl (subst (Member (n + suc m)) (sym (starts_on n before d es on)) there)
        | inr new ↦ inl (subst (Member (n + suc m)) (sym (starts_new n before d es new)) (inr there))
      ]
  | inr goes ↦ inr goes
]

-- an entry that begins no run has the one before it as its only parent
pub goes_behind : (es : List GraphEntry) (m : ℕ) (e : GraphEntry) → slice_get es m ≡ Some e → (Contains (starts_of es) m → ⊥) → (k : ℕ) × (v : List ℕ) × (m ≡ k + 1) × (slice_get (ids_of es) k ≡ Some v) × (e.parents ≡ v ∷ [])
goes_behind es m e at none = elim (begins_or_goes 0 None es m e at) [
  | inl here ↦ let same : 0 + m ≡ m = omega arith in absurd (none (member_contains (starts_of es) m (subst (λ (t : ℕ). Member t (starts_of es)) same here)))
  | inr goes ↦ by m at goes
]
  where
    by : (m : ℕ) → slice_get es m ≡ Some e → goes_on (id_before None es m) e.parents ≡ true → (k : ℕ) × (v : List ℕ) × (m ≡ k + 1) × (slice_get (ids_of es) k ≡ Some v) × (e.parents ≡ v ∷ [])
    by zero at h = cc
    by (suc k) at h =
        let l = slice_get_within es (suc k) e at in
        let r = goes_true (id_before None es (suc k)) e.parents h in
        (k, r.0, omega arith, sym (id_before_is None es k (omega arith)) ∙ r.1, r.2)

-- one more entry
push_on : (n : ℕ) (before : Option (List ℕ)) (es : List GraphEntry) (e : GraphEntry) → goes_on (last_from before es) e.parents ≡ true → starts_from n before (es ++ e ∷ []) ≡ starts_from n before es
push_on n before [] e h = starts_on n before e [] h
push_on n before (d ∷ es) e h = elim (two (goes_on before d.parents)) [
  | inl on ↦ starts_on n before d (es ++ e ∷ []) on ∙ (push_on (n + 1) (Some d.id) es e h ∙ sym (starts_on n before d es on))
  | inr new ↦ starts_new n before d (es ++ e ∷ []) new ∙ (ap (λ (t : List ℕ). n ∷ t) (push_on (n + 1) (Some d.id) es e h) ∙ sym (starts_new n before d es new))
]

push_new : (n m : ℕ) (before : Option (List ℕ)) (es : List GraphEntry) (e : GraphEntry) → m ≡ n + length es → goes_on (last_from before es) e.parents ≡ false → starts_from n before (es ++ e ∷ []) ≡ starts_from n before es ++ m ∷ []
push_new n m before [] e at h = let same : n ≡ m = omega arith in starts_new n before e [] h ∙ ap (λ (t : ℕ). t ∷ []) same
push_new n m before (d ∷ es) e at h = elim (two (goes_on before d.parents)) [
  | inl on ↦ starts_on n before d (es ++ e ∷ []) on ∙ (push_new (n + 1) m (Some d.id) es e (omega arith) h ∙ ap (λ (t : List ℕ). t ++ m ∷ []) (sym (starts_on n before d es on)))
  | inr new ↦ starts_new n before d (es ++ e ∷ []) new ∙ (ap (λ (t : List ℕ). n ∷ t) (push_new (n + 1) m (Some d.id) es e (omega arith) h) ∙ ap (λ (t : List ℕ). t ++ m ∷ []) (sym (starts_new n before d es new)))
]

-- where runs begin after one more entry, by its run
pub begun_on : (starts : List ℕ) (run n : ℕ) → run + 1 ≡ length starts → begun starts run n ≡ starts
begun_on starts run n e = go (two (eqb run (length starts)))
  where
    go : (eqb run (length starts) ≡ true) ⊎ (eqb run (length starts) ≡ false) → begun starts run n ≡ starts
    go (inl h) = let same = eqb-true run (length starts) h in absurd (omega arith)
    go (inr h) = rw h

pub begun_new : (starts : List ℕ) (run n : ℕ) → run ≡ length starts → begun starts run n ≡ starts ++ n ∷ []
begun_new starts run n e = rw (eq-eqb run (length starts) e)

pub starts_pushed : (es : List GraphEntry) (e : GraphEntry) (run : ℕ) → IsRunAfter es e.parents run → begun (starts_of es) run (length es) ≡ starts_of (es ++ e ∷ [])
starts_pushed es e run after = elim (two (goes_on (last_from None es) e.parents)) [
  | inl on ↦ begun_on (starts_of es) run (length es) (after.on on) ∙ sym (push_on 0 None es e on)
  | inr new ↦ begun_new (starts_of es) run (length es) (after.new new) ∙ sym (push_new 0 (length es) None es e (omega arith) new)
]

-- the number of runs is at most that of entries
pub runs_within : (n : ℕ) (before : Option (List ℕ)) (es : List GraphEntry) → length (starts_from n before es) ≤ length es
runs_within n before [] = omega arith
runs_within n before (e ∷ es) = let h = runs_within (n + 1) (Some e.id) es in elim (two (goes_on before e.parents)) [
  | inl on ↦ let l = ap length (starts_on n before e es on) in omega arith
  | inr new ↦ let l = ap length (starts_new n before e es new) in omega arith
]

pub runs_some : (es : List GraphEntry) → 0 < length es → 0 < runs_of es
runs_some [] l = absurd (omega arith)
runs_some (e ∷ es) l = omega arith

-- the last entry, by its number
pub last_is : (before : Option (List ℕ)) (es : List GraphEntry) (k : ℕ) (v : List ℕ) → k + 1 ≡ length es → slice_get (ids_of es) k ≡ Some v → last_from before es ≡ Some v
last_is before [] k v l at = absurd (omega arith)
last_is before (e ∷ []) zero v l at = at
last_is before (e ∷ []) (suc k) v l at = absurd (omega arith)
last_is before (e ∷ d ∷ es) zero v l at = absurd (omega arith)
last_is before (e ∷ d ∷ es) (suc k) v l at = last_is (Some e.id) (d ∷ es) k v (omega arith) at
