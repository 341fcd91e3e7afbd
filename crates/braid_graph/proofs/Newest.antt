-- Histories that are listed newest first: each entry is new among those behind it, which hold its parents.
use Rattle.std.proofs.Common.{◌≡◌, ℕ, ◌<◌, ◌≤◌, List, [], ◌∷◌, ◌++◌, length, take, reverse, slice_get, Some, zero, suc, arith, refl, sym, ap, subst, ◌∙◌, inl, inr, ◌⊎◌}
use Rattle.std.specs.List.{Contains}
use Rattle.std.proofs.lemmas.List.{take-append-le, take_at, reverse-reverse, reverse-append, length_push}
use Rattle.std.proofs.lemmas.Option.{slice_get_within, none-some, same_Some}
use Rattle.std.proofs.lemmas.Bool.{cases_lt}
use Rattle.braid_graph.specs.Entries.{GraphEntry, ids_of, Holds, HoldsAll, IsHistoryGraph}
use Rattle.braid_ids.proofs.Members.{Member, contains_member, member_contains, member_map, member_from_map, member_reverse, member_from_reverse, member_at, slice_get-append_left, slice_get_push, slice_get-take, kept_place}

abbrev pub IsNewestFirst : List GraphEntry → Type 0
IsNewestFirst [] = Unit {0}
IsNewestFirst (e ∷ es) = (Member e.id (ids_of es) → ⊥) × ((p : List ℕ) → Member p e.parents → Member p (ids_of es)) × IsNewestFirst es

pub entry_id : (e : GraphEntry) (es : List GraphEntry) → Member e es → Member e.id (ids_of es)
entry_id e es m = member_map (λ (t : GraphEntry). t.id) e es m

pub id_entry : (v : List ℕ) (es : List GraphEntry) → Member v (ids_of es) → (e : GraphEntry) × Member e es × (e.id ≡ v)
id_entry v es m = member_from_map (λ (t : GraphEntry). t.id) v es m

-- a history without its newest entry, and what that entry meets
pub front_history : (es : List GraphEntry) (e : GraphEntry) → IsHistoryGraph (es ++ e ∷ []) → IsHistoryGraph es
front_history es e h = record {
  distinct = λ n d at held. h.distinct n d (kept_place es (e ∷ []) n d at) (subst (λ (t : List GraphEntry). Holds t d.id) (sym (front n d at)) held);
  parents_first = λ n d at p c. subst (λ (t : List GraphEntry). Holds t p) (front n d at) (h.parents_first n d (kept_place es (e ∷ []) n d at) p c);
}
  where
    front : (n : ℕ) (d : GraphEntry) → slice_get es n ≡ Some d → take n (es ++ e ∷ []) ≡ take n es
    front n d at = take-append-le n es (e ∷ []) (let l = slice_get_within es n d at in omega arith)

pub newest_new : (es : List GraphEntry) (e : GraphEntry) → IsHistoryGraph (es ++ e ∷ []) → Holds es e.id → ⊥
newest_new es e h held = h.distinct (length es) e (slice_get_push es e) (subst (λ (t : List GraphEntry). Holds t e.id) (sym (take_at es (e ∷ []) (length es) refl)) held)

newest_parents : (es : List GraphEntry) (e : GraphEntry) → IsHistoryGraph (es ++ e ∷ []) → HoldsAll es e.parents
newest_parents es e h p c = subst (λ (t : List GraphEntry). Holds t p) (take_at es (e ∷ []) (length es) refl) (h.parents_first (length es) e (slice_get_push es e) p c)

pub ids_reverse : (R : List GraphEntry) (v : List ℕ) → Member v (ids_of R) → Member v (ids_of (reverse R))
ids_reverse R v m = let r = id_entry v R m in subst (λ (t : List ℕ). Member t (ids_of (reverse R))) r.2 (entry_id r.0 (reverse R) (member_reverse R r.0 r.1))

pub ids_from_reverse : (R : List GraphEntry) (v : List ℕ) → Member v (ids_of (reverse R)) → Member v (ids_of R)
ids_from_reverse R v m = let r = id_entry v (reverse R) m in subst (λ (t : List ℕ). Member t (ids_of R)) r.2 (entry_id r.0 R (member_from_reverse R r.0 r.1))

newest_first_from : (R : List GraphEntry) → IsHistoryGraph (reverse R) → IsNewestFirst R
newest_first_from [] h = tt
newest_first_from (e ∷ R) h = (
  λ m. newest_new (reverse R) e whole (member_contains (ids_of (reverse R)) e.id (ids_reverse R e.id m)),
  λ p m. ids_from_reverse R p (contains_member (ids_of (reverse R)) p (newest_parents (reverse R) e whole p (member_contains e.parents p m))),
  newest_first_from R (front_history (reverse R) e whole),
)
  where
    whole : IsHistoryGraph (reverse R ++ e ∷ [])
    whole = subst IsHistoryGraph (reverse-append (e ∷ []) R) h

pub newest_first : (es : List GraphEntry) → IsHistoryGraph es → IsNewestFirst (reverse es)
newest_first es h = newest_first_from (reverse es) (subst IsHistoryGraph (sym (reverse-reverse es)) h)

-- a history with one more entry
pub history_push : (es : List GraphEntry) (e : GraphEntry) → IsHistoryGraph es → (Holds es e.id → ⊥) → HoldsAll es e.parents → IsHistoryGraph (es ++ e ∷ [])
history_push es e h new held = record {
  distinct = λ n d at c. elim (place n d at) [
    | inl (a, l) ↦ h.distinct n d a (subst (λ (t : List GraphEntry). Holds t d.id) (take-append-le n es (e ∷ []) l) c)
    | inr (a, l) ↦ new (subst (λ (t : GraphEntry). Holds es t.id) (sym a) (subst (λ (t : List GraphEntry). Holds t d.id) (take_at es (e ∷ []) n (sym l)) c))
  ];
  parents_first = λ n d at p c. elim (place n d at) [
    | inl (a, l) ↦ subst (λ (t : List GraphEntry). Holds t p) (sym (take-append-le n es (e ∷ []) l)) (h.parents_first n d a p c)
    | inr (a, l) ↦ subst (λ (t : List GraphEntry). Holds t p) (sym (take_at es (e ∷ []) n (sym l))) (held p (subst (λ (t : GraphEntry). Contains t.parents p) (sym a) c))
  ];
}
  where
    place : (n : ℕ) (d : GraphEntry) → slice_get (es ++ e ∷ []) n ≡ Some d → ((slice_get es n ≡ Some d) × (n ≤ length es)) ⊎ ((e ≡ d) × (n ≡ length es))
    place n d at = elim (cases_lt n (length es)) [
      | inl l ↦ inl (sym (slice_get-append_left es (e ∷ []) n l) ∙ at, omega arith)
      | inr l ↦
          let w = slice_get_within (es ++ e ∷ []) n d at in
          let q : n ≡ length es = omega (arith, length_push es e) in
          inr (same_Some e d (sym (slice_get_push es e) ∙ subst (λ (t : ℕ). slice_get (es ++ e ∷ []) t ≡ Some d) q at), q)
    ]

-- one entry has an identifier
pub one_entry : (R : List GraphEntry) → IsNewestFirst R → (d e : GraphEntry) → Member d R → Member e R → d.id ≡ e.id → d ≡ e
one_entry [] o d e m n same = absurd m
one_entry (c ∷ R) o d e (inl a) (inl b) same = sym a ∙ b
one_entry (c ∷ R) o d e (inl a) (inr n) same = absurd (o.0 (subst (λ (t : List ℕ). Member t (ids_of R)) (sym same ∙ sym (ap (λ (t : GraphEntry). t.id) a)) (entry_id e R n)))
one_entry (c ∷ R) o d e (inr m) (inl b) same = absurd (o.0 (subst (λ (t : List ℕ). Member t (ids_of R)) (same ∙ sym (ap (λ (t : GraphEntry). t.id) b)) (entry_id d R m)))
one_entry (c ∷ R) o d e (inr m) (inr n) same = one_entry R o.2 d e m n same

-- parents of an entry are held
pub held_parents : (R : List GraphEntry) → IsNewestFirst R → (e : GraphEntry) → Member e R → (p : List ℕ) → Member p e.parents → Member p (ids_of R)
held_parents [] o e m p n = absurd m
held_parents (c ∷ R) o e (inl a) p n = inr (o.1 p (subst (λ (t : GraphEntry). Member p t.parents) (sym a) n))
held_parents (c ∷ R) o e (inr m) p n = inr (held_parents R o.2 e m p n)

-- the entry that a number stands for, and its identifier
pub entry_at : (es : List GraphEntry) (n : ℕ) (v : List ℕ) → slice_get (ids_of es) n ≡ Some v → (e : GraphEntry) × (slice_get es n ≡ Some e) × (e.id ≡ v)
entry_at [] n v a = absurd (none-some v a)
entry_at (e ∷ es) zero v a = (e, refl, same_Some e.id v a)
entry_at (e ∷ es) (suc n) v a = entry_at es n v a

pub id_at : (es : List GraphEntry) (n : ℕ) (e : GraphEntry) → slice_get es n ≡ Some e → slice_get (ids_of es) n ≡ Some e.id
id_at [] n e a = absurd (none-some e a)
id_at (d ∷ es) zero e a = ap Some (ap (λ (t : GraphEntry). t.id) (same_Some d e a))
id_at (d ∷ es) (suc n) e a = id_at es n e a

-- parents of an entry are held, in order of arrival
pub parents_held : (es : List GraphEntry) → IsHistoryGraph es → (e : GraphEntry) → Contains es e → (p : List ℕ) → Contains e.parents p → Holds es p
parents_held es h e c p d = member_contains (ids_of es) p (ids_from_reverse es p (held_parents (reverse es) (newest_first es h) e (member_reverse es e (contains_member es e c)) p (contains_member e.parents p d)))

-- one number has an identifier
not_before : (es : List GraphEntry) → IsHistoryGraph es → (v : List ℕ) (i j : ℕ) → slice_get (ids_of es) i ≡ Some v → slice_get (ids_of es) j ≡ Some v → i < j → ⊥
not_before es h v i j a b l =
    let d = entry_at es i v a in
    let e = entry_at es j v b in
    let m = entry_id d.0 (take j es) (member_at (take j es) i d.0 (slice_get-take j es i l ∙ d.1)) in
    h.distinct j e.0 e.1 (member_contains (ids_of (take j es)) e.0.id (subst (λ (t : List ℕ). Member t (ids_of (take j es))) (d.2 ∙ sym e.2) m))

pub one_number : (es : List GraphEntry) → IsHistoryGraph es → (v : List ℕ) (i j : ℕ) → slice_get (ids_of es) i ≡ Some v → slice_get (ids_of es) j ≡ Some v → i ≡ j
one_number es h v i j a b = elim (cases_lt i j) [
  | inl l ↦ absurd (not_before es h v i j a b l)
  | inr l ↦ elim (cases_lt j i) [
    | inl k ↦ absurd (not_before es h v j i b a k)
    | inr k ↦ omega arith
  ]
]
