-- The marks of heads after each step, and the greatest number of the agent's versions.
use Rattle.std.proofs.Common.{◌≡◌, ◌≢◌, ◌↔◌, ℕ, ◌<◌, ◌≤◌, ◌+◌, List, [], ◌∷◌, ◌++◌, Bool, true, false, cond, refl, sym, ap, subst, ◌∙◌, inl, inr, ◌⊎◌, arith, length, take, drop, max, reverse, Option, None, Some, unwrap_or, zero, suc, get_or, length-append, length-set, length-take, append_assoc}
use Rattle.std.proofs.Math.ListN.{set}
use Rattle.std.proofs.lemmas.Bool.{cases_eq}
use Rattle.std.proofs.lemmas.List.{map-append, length-map, take_all, get_or-set_same, get_or-set_other}
use Rattle.std.proofs.lemmas.List.Sums.{sum_by-cons, sum_by-drop_more, sum_by-take-drop}
use Rattle.std.proofs.lemmas.Option.{slice_get_within, slice_get-get_or, same_Some}
use Rattle.std.specs.List.{Contains, slice_get, count_by}
use Rattle.braid_ids.specs.MarkSets.{IsMarked}
use Rattle.braid_ids.proofs.Members.{slice_get-append_left, slice_get_push, member_at, place_of, no_gap}
use Rattle.braid_change.specs.Updates.{UpdateView}
use Rattle.braid_graph.specs.Entries.{GraphEntry, ids_of, Holds, IsHistoryGraph}
use Rattle.braid_graph.specs.Frontiers.{IsParent}
use Rattle.braid_graph.proofs.Collected.{ids_length}
use Rattle.braid_graph.proofs.Kept.{take_next}
use Rattle.braid_graph.proofs.Newest.{one_number}
use Rattle.braid_tree.specs.Trees.{Member}
use Rattle.braid_tree.proofs.Member.{member_append_left, member_append_right, member_append_cases}
use Rattle.braid_rebase.proofs.Members.{contains_member, member_contains, member_from_map}
use Rattle.braid_text.specs.Histories.{entry_of, graph_of, IsLegal, IsLegalLog}
use Rattle.braid_text.proofs.Logs.{Has, has_holds, holds_has, parents_held}
use Rattle.braid_text.proofs.Ties.{legal_graph}
use Rattle.braid_outbox.specs.Replicas.{number, greatest_number}
use Rattle.braid_outbox.specs.Kept.{with_found, picked}
use Rattle.braid_outbox.specs.Heads.{IsHead, IsNumberAmong}
use Rattle.braid_outbox.proofs.Additions.{log_parts, log_more}
use Rattle.braid_outbox.proofs.Moves.{to_log}
use Rattle.braid_outbox.proofs.Picked.{picked-append, picked_number, number_picked}
use Rattle.braid_outbox.proofs.Marking.{marked_more, marked_same, marked_set}

-- no number from the number of flags on is marked
marked_within : (flags : List Bool) (n : ℕ) → IsMarked flags n → n < length flags
marked_within [] zero h = cc
marked_within [] (suc n) h = cc
marked_within (f ∷ flags) zero h = omega arith
marked_within (f ∷ flags) (suc n) h = let r = marked_within flags n h in omega (arith, r)

-- the identifier of an update stands under its number
id_under : (H : List UpdateView) (n : ℕ) (u : UpdateView) → slice_get H n ≡ Some u → slice_get (ids_of (graph_of H)) n ≡ Some u.id
id_under [] n u e = cc
id_under (w ∷ H) zero u e = let f : w ≡ u = cc in ap (λ (t : UpdateView). Some t.id) f
id_under (w ∷ H) (suc n) u e = id_under H n u e

-- a parent among more entries
parent_more : (C : List UpdateView) (u : UpdateView) (v : List ℕ) → IsParent (graph_of C) v → IsParent (graph_of (C ++ u ∷ [])) v
parent_more C u v (e, m, p) = (e, subst (λ (es : List GraphEntry). Contains es e) (sym (map-append entry_of C (u ∷ []))) (member_contains (graph_of C ++ graph_of (u ∷ [])) e (member_append_left e (graph_of C) (graph_of (u ∷ [])) (contains_member (graph_of C) e m))), p)

parent_last : (C : List UpdateView) (u : UpdateView) (v : List ℕ) → Contains u.parents v → IsParent (graph_of (C ++ u ∷ [])) v
parent_last C u v p = (entry_of u, subst (λ (es : List GraphEntry). Contains es (entry_of u)) (sym (map-append entry_of C (u ∷ []))) (member_contains (graph_of C ++ graph_of (u ∷ [])) (entry_of u) (member_append_right (entry_of u) (graph_of C) (graph_of (u ∷ [])) (inl refl))), p)

parent_cases : (C : List UpdateView) (u : UpdateView) (v : List ℕ) → IsParent (graph_of (C ++ u ∷ [])) v → IsParent (graph_of C) v ⊎ Contains u.parents v
parent_cases C u v (e, m, p) = go (member_append_cases e (graph_of C) (graph_of (u ∷ [])) (contains_member (graph_of C ++ graph_of (u ∷ [])) e (subst (λ (es : List GraphEntry). Contains es e) (map-append entry_of C (u ∷ [])) m)))
  where
    go : Member e (graph_of C) ⊎ Member e (graph_of (u ∷ [])) → IsParent (graph_of C) v ⊎ Contains u.parents v
    go (inl k) = inl (e, member_contains (graph_of C) e k, p)
    go (inr (inl f)) = inr (subst (λ (t : GraphEntry). Contains t.parents v) (sym f) p)
    go (inr (inr k)) = absurd k

holds_more : (C : List UpdateView) (u : UpdateView) (v : List ℕ) → Holds (graph_of C) v → Holds (graph_of (C ++ u ∷ [])) v
holds_more C u v h = let s = holds_has C v h in has_holds (C ++ u ∷ []) v (s.0, member_append_left (s.0) C (u ∷ []) s.1, s.2)

holds_last : (C : List UpdateView) (u : UpdateView) → Holds (graph_of (C ++ u ∷ [])) u.id
holds_last C u = has_holds (C ++ u ∷ []) u.id (u, member_append_right u C (u ∷ []) (inl refl), refl)

holds_cases : (C : List UpdateView) (u : UpdateView) (v : List ℕ) → Holds (graph_of (C ++ u ∷ [])) v → Holds (graph_of C) v ⊎ (u.id ≡ v)
holds_cases C u v h = go (holds_has (C ++ u ∷ []) v h)
  where
    go : Has (C ++ u ∷ []) v → Holds (graph_of C) v ⊎ (u.id ≡ v)
    go (x, m, e) = elim (member_append_cases x C (u ∷ []) m) [
      | inl a ↦ inl (has_holds C v (x, a, e))
      | inr (inl f) ↦ inr (ap (λ (t : UpdateView). t.id) f ∙ e)
      | inr (inr n) ↦ absurd n
    ]

-- the newest of a legal history is no entry's parent
last_free : (C : List UpdateView) (u : UpdateView) → IsLegalLog (u ∷ reverse C) → IsParent (graph_of (C ++ u ∷ [])) u.id → ⊥
last_free C u legal h = go (parent_cases C u u.id h)
  where
    go : IsParent (graph_of C) u.id ⊎ Contains u.parents u.id → ⊥
    go (inl (e, m, p)) = by (member_from_map entry_of e C (contains_member (graph_of C) e m))
      where
        by : (x : UpdateView) × Member x C × (entry_of x ≡ e) → ⊥
        by (x, n, f) = legal.0.new (has_holds (reverse C) u.id (parents_held (reverse C) legal.1 x (to_log C x n) u.id (contains_member x.parents u.id (subst (λ (t : GraphEntry). Contains t.parents u.id) (sym f) p))))
    go (inr p) = legal.0.new (legal.0.parents_held u.id p)

-- an update becomes the newest confirmed one: it is a head in place of its parents
heads_step : (H C : List UpdateView) (u : UpdateView) (n : ℕ) → slice_get H n ≡ Some u → IsHistoryGraph (graph_of H) → IsLegalLog (u ∷ reverse C) → (old new : List Bool)
    → ((m : ℕ) (w : UpdateView) → slice_get H m ≡ Some w → (m ≡ n → ⊥) → IsMarked old m ↔ IsHead (graph_of C) w.id) → IsMarked old n
    → ((m : ℕ) → IsMarked new m ↔ (IsMarked old m × (IsNumberAmong (graph_of H) u.parents m → ⊥)))
    → (m : ℕ) (w : UpdateView) → slice_get H m ≡ Some w → IsMarked new m ↔ IsHead (graph_of (C ++ u ∷ [])) w.id
heads_step H C u n at history legal old new before set cleared m w there = (to, from)
  where
    among : Contains u.parents w.id → IsNumberAmong (graph_of H) u.parents m
    among p = (w.id, p, id_under H m w there)

    named : IsNumberAmong (graph_of H) u.parents m → Contains u.parents w.id
    named (v, p, e) = subst (Contains u.parents) (same_Some v w.id (sym e ∙ id_under H m w there)) p

    same : m ≡ n → u ≡ w
    same e = same_Some u w (sym at ∙ ap (slice_get H) (sym e) ∙ there)

    place : u.id ≡ w.id → m ≡ n
    place e = one_number (graph_of H) history w.id m n (id_under H m w there) (id_under H n u at ∙ ap Some e)

    to : IsMarked new m → IsHead (graph_of (C ++ u ∷ [])) w.id
    to h = go (cases_eq m n)
      where
        kept : IsMarked old m × (IsNumberAmong (graph_of H) u.parents m → ⊥)
        kept = (cleared m).0 h

        go : (m ≡ n) ⊎ (m ≢ n) → IsHead (graph_of (C ++ u ∷ [])) w.id
        go (inl e) = subst (λ (t : UpdateView). IsHead (graph_of (C ++ u ∷ [])) t.id) (same e) (holds_last C u, last_free C u legal)
        go (inr d) = let was = (before m w there d).0 kept.0 in (
          holds_more C u w.id was.0,
          λ p. elim (parent_cases C u w.id p) [ inl q ↦ was.1 q | inr q ↦ kept.1 (among q) ],
        )

    from : IsHead (graph_of (C ++ u ∷ [])) w.id → IsMarked new m
    from h = (cleared m).1 (go (cases_eq m n), λ a. h.1 (parent_last C u w.id (named a)))
      where
        go : (m ≡ n) ⊎ (m ≢ n) → IsMarked old m
        go (inl e) = subst (IsMarked old) (sym e) set
        go (inr d) = (before m w there d).1 (elim (holds_cases C u w.id h.0) [ inl k ↦ k | inr e ↦ absurd (d (place e)) ], λ p. h.1 (parent_more C u w.id p))

-- the same of an update that came with the next number
pub heads_confirmed : (H C : List UpdateView) (u : UpdateView) → IsHistoryGraph (graph_of (H ++ u ∷ [])) → IsLegalLog (u ∷ reverse C) → (heads new : List Bool) → length heads ≡ length H
    → ((m : ℕ) (w : UpdateView) → slice_get H m ≡ Some w → IsMarked heads m ↔ IsHead (graph_of C) w.id)
    → ((m : ℕ) → IsMarked new m ↔ (IsMarked (heads ++ true ∷ []) m × (IsNumberAmong (graph_of (H ++ u ∷ [])) u.parents m → ⊥)))
    → (m : ℕ) (w : UpdateView) → slice_get (H ++ u ∷ []) m ≡ Some w → IsMarked new m ↔ IsHead (graph_of (C ++ u ∷ [])) w.id
heads_confirmed H C u history legal heads new size exact cleared = heads_step (H ++ u ∷ []) C u (length H) (slice_get_push H u) history legal (heads ++ true ∷ []) new
    (λ m w at d. let e = exact m w (shorter m w at d) in (
      (λ h. elim ((marked_more heads m).0 h) [ inl k ↦ e.0 k | inr f ↦ absurd (d (f ∙ size)) ]),
      (λ h. (marked_more heads m).1 (inl (e.1 h))),
    ))
    ((marked_more heads (length H)).1 (inr (sym size))) cleared
  where
    shorter : (m : ℕ) (w : UpdateView) → slice_get (H ++ u ∷ []) m ≡ Some w → (m ≡ length H → ⊥) → slice_get H m ≡ Some w
    shorter m w at d = let a = slice_get_within (H ++ u ∷ []) m w at in let b = length-append H (u ∷ []) in let l : m < length H = omega (arith, a, b, d) in sym (slice_get-append_left H (u ∷ []) m l) ∙ at

-- of the first unsent one, which came before
pub heads_first : (H C : List UpdateView) (u : UpdateView) (n : ℕ) → slice_get H n ≡ Some u → IsHistoryGraph (graph_of H) → IsLegalLog (u ∷ reverse C) → (heads new : List Bool) → length heads ≡ length H
    → ((m : ℕ) (w : UpdateView) → slice_get H m ≡ Some w → IsMarked heads m ↔ IsHead (graph_of C) w.id)
    → ((m : ℕ) → IsMarked new m ↔ (IsMarked (set heads n true) m × (IsNumberAmong (graph_of H) u.parents m → ⊥)))
    → (m : ℕ) (w : UpdateView) → slice_get H m ≡ Some w → IsMarked new m ↔ IsHead (graph_of (C ++ u ∷ [])) w.id
heads_first H C u n at history legal heads new size exact cleared = heads_step H C u n at history legal (set heads n true) new
    (λ m w there d. let e = exact m w there in (
      (λ h. elim ((marked_set heads n m inside).0 h) [ inl k ↦ e.0 k | inr f ↦ absurd (d f) ]),
      (λ h. (marked_set heads n m inside).1 (inl (e.1 h))),
    ))
    ((marked_set heads n n inside).1 (inr refl)) cleared
  where
    inside : n < length heads
    inside = let w = slice_get_within H n u at in omega (arith, w, size)

-- of a new unsent one, nothing changes
pub heads_unsent : (H C : List UpdateView) (u : UpdateView) → (Holds (graph_of H) u.id → ⊥) → ((v : List ℕ) → Holds (graph_of C) v → Holds (graph_of H) v) → (heads : List Bool) → length heads ≡ length H
    → ((m : ℕ) (w : UpdateView) → slice_get H m ≡ Some w → IsMarked heads m ↔ IsHead (graph_of C) w.id)
    → (m : ℕ) (w : UpdateView) → slice_get (H ++ u ∷ []) m ≡ Some w → IsMarked (heads ++ false ∷ []) m ↔ IsHead (graph_of C) w.id
heads_unsent H C u new part heads size exact m w at = go (cases_eq m (length H))
  where
    go : (m ≡ length H) ⊎ (m ≢ length H) → IsMarked (heads ++ false ∷ []) m ↔ IsHead (graph_of C) w.id
    go (inl e) = (
      (λ h. absurd (let l = marked_within heads m ((marked_same heads m).0 h) in omega (arith, l, size, e))),
      (λ h. absurd (new (subst (λ (t : UpdateView). Holds (graph_of H) t.id) (sym is) (part w.id h.0)))),
    )
      where
        is : u ≡ w
        is = same_Some u w (sym (slice_get_push H u) ∙ ap (slice_get (H ++ u ∷ [])) (sym e) ∙ at)
    go (inr d) = let a = slice_get_within (H ++ u ∷ []) m w at in let b = length-append H (u ∷ []) in let l : m < length H = omega (arith, a, b, d) in
        let e = exact m w (sym (slice_get-append_left H (u ∷ []) m l) ∙ at) in (
          (λ h. e.0 ((marked_same heads m).0 h)),
          (λ h. (marked_same heads m).1 (e.1 h)),
        )

-- the greatest number where an update is put between others
greatest_between : (a : List ℕ) (xs ys : List UpdateView) (u : UpdateView) → greatest_number a (xs ++ u ∷ ys) ≡ max (greatest_number a (xs ++ ys)) (unwrap_or (number a u.id) 0)
greatest_between a [] ys u = omega arith
greatest_between a (x ∷ xs) ys u = let g = greatest_between a xs ys u in omega (arith, g)

pub greatest_confirmed : (a : List ℕ) (C O : List UpdateView) (u : UpdateView) → greatest_number a (reverse ((C ++ u ∷ []) ++ O)) ≡ max (greatest_number a (reverse (C ++ O))) (unwrap_or (number a u.id) 0)
greatest_confirmed a C O u = ap (greatest_number a) (log_parts (C ++ u ∷ []) O ∙ ap (λ t. reverse O ++ t) (log_more C u)) ∙ greatest_between a (reverse O) (reverse C) u
    ∙ ap (λ (t : List UpdateView). max (greatest_number a t) (unwrap_or (number a u.id) 0)) (sym (log_parts C O))

pub greatest_unsent : (a : List ℕ) (C O : List UpdateView) (u : UpdateView) → greatest_number a (reverse (C ++ (O ++ u ∷ []))) ≡ max (greatest_number a (reverse (C ++ O))) (unwrap_or (number a u.id) 0)
greatest_unsent a C O u = ap (λ (t : List UpdateView). greatest_number a (reverse t)) (sym (append_assoc C O (u ∷ []))) ∙ ap (greatest_number a) (log_more (C ++ O) u) ∙ greatest_between a [] (reverse (C ++ O)) u

-- flags of which one is taken back
marked_clear : (flags : List Bool) (n m : ℕ) → n < length flags → IsMarked (set flags n false) m ↔ (IsMarked flags m × (m ≡ n → ⊥))
marked_clear flags n m l = go (cases_eq m n)
  where
    go : (m ≡ n) ⊎ (m ≢ n) → IsMarked (set flags n false) m ↔ (IsMarked flags m × (m ≡ n → ⊥))
    go (inl e) = let off : get_or (set flags n false) m false ≡ false = ap (λ k. get_or (set flags n false) k false) e ∙ get_or-set_same flags n false false l in
        ((λ h. absurd (let t : false ≡ true = sym off ∙ h in cc)), (λ s. absurd (s.1 e)))
    go (inr d) = let same : get_or (set flags n false) m false ≡ get_or flags m false = get_or-set_other flags n m false false d in
        ((λ h. (sym same ∙ h, d)), (λ s. same ∙ s.0))

-- the numbers of one identifier more
among_next : (es : List GraphEntry) (F : List (List ℕ)) (i : ℕ) (v : List ℕ) → Some v ≡ slice_get F i → (m : ℕ) → IsNumberAmong es (take (i + 1) F) m ↔ (IsNumberAmong es (take i F) m ⊎ (slice_get (ids_of es) m ≡ Some v))
among_next es F i v at m = (to, from)
  where
    parts : take (i + 1) F ≡ take i F ++ v ∷ []
    parts = take_next F i v (sym at)

    to : IsNumberAmong es (take (i + 1) F) m → IsNumberAmong es (take i F) m ⊎ (slice_get (ids_of es) m ≡ Some v)
    to (w, c, e) = elim (member_append_cases w (take i F) (v ∷ []) (contains_member (take i F ++ v ∷ []) w (subst (λ (G : List (List ℕ)). Contains G w) parts c))) [
      | inl a ↦ inl (w, member_contains (take i F) w a, e)
      | inr (inl f) ↦ inr (e ∙ ap Some (sym f))
      | inr (inr n) ↦ absurd n
    ]

    whole : (w : List ℕ) → Member w (take i F ++ v ∷ []) → Contains (take (i + 1) F) w
    whole w k = subst (λ (G : List (List ℕ)). Contains G w) (sym parts) (member_contains (take i F ++ v ∷ []) w k)

    from : IsNumberAmong es (take i F) m ⊎ (slice_get (ids_of es) m ≡ Some v) → IsNumberAmong es (take (i + 1) F) m
    from (inl (w, c, e)) = (w, whole w (member_append_left w (take i F) (v ∷ []) (contains_member (take i F) w c)), e)
    from (inr e) = (v, whole v (member_append_right v (take i F) (v ∷ []) (inl refl)), e)

-- what is cleared after the first i of some identifiers
abbrev pub IsCleared : List UpdateView → List (List ℕ) → ℕ → List Bool → List Bool → Type 0
IsCleared H F i old flags = (length flags ≡ length old) × ((m : ℕ) → IsMarked flags m ↔ (IsMarked old m × (IsNumberAmong (graph_of H) (take i F) m → ⊥)))

pub cleared_found : (H : List UpdateView) → IsLegal H → (F : List (List ℕ)) (i n : ℕ) (v : List ℕ) → Some v ≡ slice_get F i → slice_get (ids_of (graph_of H)) n ≡ Some v → (old flags new : List Bool) → length old ≡ length H → new ≡ set flags n false
    → IsCleared H F i old flags → IsCleared H F (i + 1) old new
cleared_found H legal F i n v at found old flags new size e before = subst (IsCleared H F (i + 1) old) (sym e) (length-set flags n false ∙ before.0, λ m. (to m, from m))
  where
    inside : n < length flags
    inside = let w = slice_get_within (ids_of (graph_of H)) n v found in let a = ids_length (graph_of H) in let b = length-map H entry_of in omega (arith, w, a, b, size, before.0)

    to : (m : ℕ) → IsMarked (set flags n false) m → IsMarked old m × (IsNumberAmong (graph_of H) (take (i + 1) F) m → ⊥)
    to m h = let k = (marked_clear flags n m inside).0 h in let o = (before.1 m).0 k.0 in
        (o.0, λ a. elim ((among_next (graph_of H) F i v at m).0 a) [ inl b ↦ o.1 b | inr f ↦ k.1 (one_number (graph_of H) (legal_graph H legal) v m n f found) ])

    from : (m : ℕ) → IsMarked old m × (IsNumberAmong (graph_of H) (take (i + 1) F) m → ⊥) → IsMarked (set flags n false) m
    from m (o, a) = (marked_clear flags n m inside).1 (
      (before.1 m).1 (o, λ b. a ((among_next (graph_of H) F i v at m).1 (inl b))),
      (λ f. a ((among_next (graph_of H) F i v at m).1 (inr (ap (slice_get (ids_of (graph_of H))) f ∙ found)))),
    )

pub cleared_missing : (H : List UpdateView) (F : List (List ℕ)) (i : ℕ) (v : List ℕ) → Some v ≡ slice_get F i → (Holds (graph_of H) v → ⊥) → (old flags new : List Bool) → new ≡ flags → IsCleared H F i old flags → IsCleared H F (i + 1) old new
cleared_missing H F i v at missing old flags new e before = subst (IsCleared H F (i + 1) old) (sym e) (
  before.0,
  λ m. (
    (λ h. let o = (before.1 m).0 h in (o.0, λ a. elim ((among_next (graph_of H) F i v at m).0 a) [ inl b ↦ o.1 b | inr f ↦ missing (member_contains (ids_of (graph_of H)) v (member_at (ids_of (graph_of H)) m v f)) ])),
    (λ s. (before.1 m).1 (s.0, λ b. s.1 ((among_next (graph_of H) F i v at m).1 (inl b)))),
  ),
)

pub cleared_all : (H : List UpdateView) (F : List (List ℕ)) (i : ℕ) (old flags : List Bool) → length F ≤ i → IsCleared H F i old flags → (m : ℕ) → IsMarked flags m ↔ (IsMarked old m × (IsNumberAmong (graph_of H) F m → ⊥))
cleared_all H F i old flags far before m = subst (λ (G : List (List ℕ)). IsMarked flags m ↔ (IsMarked old m × (IsNumberAmong (graph_of H) G m → ⊥))) (take_all i F far) (before.1 m)

-- the numbers that are marked, from number n on
abbrev pub AreNumbers : List Bool → ℕ → List ℕ → Type 0
AreNumbers flags n xs = (length xs ≡ count_by (λ (b : Bool). b) (drop n flags)) × ((m : ℕ) → Contains xs m ↔ ((n ≤ m) × IsMarked flags m))

flag_at : (flags : List Bool) (n : ℕ) (b : Bool) → n < length flags → b ≡ get_or flags n b → get_or flags n false ≡ b
flag_at flags n b l h = go (sym (slice_get-get_or flags n false l) ∙ slice_get-get_or flags n b l)
  where
    go : Some (get_or flags n false) ≡ Some (get_or flags n b) → get_or flags n false ≡ b
    go s = let d : get_or flags n false ≡ get_or flags n b = cc in d ∙ sym h

counted_at : (flags : List Bool) (n : ℕ) (b : Bool) → n < length flags → b ≡ get_or flags n b → count_by (λ (x : Bool). x) (drop n flags) ≡ cond b 1 0 + count_by (λ (x : Bool). x) (drop (n + 1) flags)
counted_at flags n b l h = sum_by-drop_more (λ (x : Bool). cond x 1 0) flags n false l ∙ ap (λ (x : Bool). cond x 1 0 + count_by (λ (y : Bool). y) (drop (n + 1) flags)) (flag_at flags n b l h)

pub numbers_yes : (flags : List Bool) (n : ℕ) (xs ys : List ℕ) → n < length flags → true ≡ get_or flags n true → ys ≡ xs ++ n ∷ [] → AreNumbers flags (n + 1) xs → AreNumbers flags n ys
numbers_yes flags n xs ys l h e before = subst (AreNumbers flags n) (sym e) ((let a = counted_at flags n true l h in let b = length-append xs (n ∷ []) in omega (arith, a, b, before.0)), λ m. (to m, from m))
  where
    to : (m : ℕ) → Contains (xs ++ n ∷ []) m → (n ≤ m) × IsMarked flags m
    to m c = elim (member_append_cases m xs (n ∷ []) (contains_member (xs ++ n ∷ []) m c)) [
      | inl a ↦ (let k = (before.1 m).0 (member_contains xs m a) in (omega (arith, k.0), k.1))
      | inr (inl f) ↦ (omega (arith, f), subst (IsMarked flags) f (flag_at flags n true l h))
      | inr (inr z) ↦ absurd z
    ]

    from : (m : ℕ) → (n ≤ m) × IsMarked flags m → Contains (xs ++ n ∷ []) m
    from m (low, k) = member_contains (xs ++ n ∷ []) m (go (cases_eq m n))
      where
        go : (m ≡ n) ⊎ (m ≢ n) → Member m (xs ++ n ∷ [])
        go (inl f) = member_append_right m xs (n ∷ []) (inl (sym f))
        go (inr d) = member_append_left m xs (n ∷ []) (contains_member xs m ((before.1 m).1 (omega (arith, low, d), k)))

pub numbers_no : (flags : List Bool) (n : ℕ) (xs : List ℕ) → n < length flags → false ≡ get_or flags n false → AreNumbers flags (n + 1) xs → AreNumbers flags n xs
numbers_no flags n xs l h before = (
  (let a = counted_at flags n false l h in omega (arith, a, before.0)),
  λ m. (
    (λ c. let k = (before.1 m).0 c in (omega (arith, k.0), k.1)),
    (λ s. (before.1 m).1 (above m s.0 s.1, s.1)),
  ),
)
  where
    above : (m : ℕ) → n ≤ m → IsMarked flags m → n + 1 ≤ m
    above m low k = go (cases_eq m n)
      where
        go : (m ≡ n) ⊎ (m ≢ n) → n + 1 ≤ m
        go (inl f) = absurd (let t : false ≡ true = h ∙ subst (IsMarked flags) f k in cc)
        go (inr d) = omega (arith, low, d)

-- where as many are found as are marked, none is marked before
none_before : (flags : List Bool) (n m : ℕ) → count_by (λ (b : Bool). b) (drop n flags) ≡ count_by (λ (b : Bool). b) flags → IsMarked flags m → n ≤ m
none_before flags zero m e h = omega arith
none_before [] (suc n) m e h = absurd (let l = marked_within [] m h in omega (arith, l))
none_before (f ∷ flags) (suc n) m e h = go f m (λ j. none_before flags n j) (sum_by-cons (λ (b : Bool). cond b 1 0) f flags) (sum_by-take-drop (λ (b : Bool). cond b 1 0) flags n) e h
  where
    go : (f : Bool) (m : ℕ) → ((j : ℕ) → count_by (λ (b : Bool). b) (drop n flags) ≡ count_by (λ (b : Bool). b) flags → IsMarked flags j → n ≤ j) → count_by (λ (b : Bool). b) (f ∷ flags) ≡ cond f 1 0 + count_by (λ (b : Bool). b) flags → count_by (λ (b : Bool). b) (take n flags) + count_by (λ (b : Bool). b) (drop n flags) ≡ count_by (λ (b : Bool). b) flags
        → count_by (λ (b : Bool). b) (drop n flags) ≡ count_by (λ (b : Bool). b) (f ∷ flags) → IsMarked (f ∷ flags) m → suc n ≤ m
    go true m ih a b c h = absurd (omega (arith, a, b, c))
    go false zero ih a b c h = absurd (let t : false ≡ true = h in cc)
    go false (suc m) ih a b c h = let r = ih m (omega (arith, a, c)) h in omega (arith, r)

pub numbers_all : (flags : List Bool) (n count : ℕ) (xs : List ℕ) → count ≡ count_by (λ (b : Bool). b) flags → (length xs ≡ count) ⊎ (n ≡ 0) → AreNumbers flags n xs → (m : ℕ) → Contains xs m ↔ IsMarked flags m
numbers_all flags n count xs counted end are m = ((λ c. ((are.1 m).0 c).1), (λ k. (are.1 m).1 (low end k, k)))
  where
    low : (length xs ≡ count) ⊎ (n ≡ 0) → IsMarked flags m → n ≤ m
    low (inl full) k = none_before flags n m (sym are.0 ∙ full ∙ counted) k
    low (inr z) k = omega (arith, z)

-- the identifiers under marked numbers are those of the heads
pub heads_found : (H C : List UpdateView) (heads : List Bool) → length heads ≡ length H → ((m : ℕ) (w : UpdateView) → slice_get H m ≡ Some w → IsMarked heads m ↔ IsHead (graph_of C) w.id) → ((u : UpdateView) → Member u C → Member u H)
    → (xs : List ℕ) → ((m : ℕ) → Contains xs m ↔ IsMarked heads m) → (v : List ℕ) → Contains (ids_of (graph_of (picked H xs))) v ↔ IsHead (graph_of C) v
heads_found H C heads size exact part xs are v = (to, from)
  where
    to : Contains (ids_of (graph_of (picked H xs))) v → IsHead (graph_of C) v
    to c = go (holds_has (picked H xs) v c)
      where
        go : Has (picked H xs) v → IsHead (graph_of C) v
        go (u, m, e) = let p = picked_number H xs u m in subst (IsHead (graph_of C)) e ((exact p.0 u p.2).0 ((are p.0).0 (member_contains xs p.0 p.1)))

    from : IsHead (graph_of C) v → Contains (ids_of (graph_of (picked H xs))) v
    from h = go (holds_has C v h.0)
      where
        go : Has C v → Contains (ids_of (graph_of (picked H xs))) v
        go (u, m, e) = let p = place_of H u (part u m) in has_holds (picked H xs) v (u, number_picked H xs u p.0 (contains_member xs p.0 ((are p.0).1 ((exact p.0 u p.1).1 (subst (IsHead (graph_of C)) (sym e) h)))) p.1, e)

-- the updates under these numbers, one after the other
place_at : (ys : List ℕ) (i : ℕ) → i < length ys → slice_get ys i ≡ Some (get_or ys i 0)
place_at ys i l = slice_get-get_or ys i 0 l

pub head_there : (H : List UpdateView) (heads : List Bool) → length heads ≡ length H → (xs ys : List ℕ) → ys ≡ xs → ((m : ℕ) → Contains xs m ↔ IsMarked heads m) → (i : ℕ) → i < length ys → None ≡ slice_get H (get_or ys i 0) → ⊥
head_there H heads size xs ys e are i l gone = no_gap H (get_or ys i 0) inside (sym gone)
  where
    inside : get_or ys i 0 < length H
    inside = let k = marked_within heads (get_or ys i 0) ((are (get_or ys i 0)).0 (subst (λ (zs : List ℕ). Contains zs (get_or ys i 0)) e (member_contains ys (get_or ys i 0) (member_at ys i (get_or ys i 0) (place_at ys i l))))) in omega (arith, k, size)

pub head_next : (H : List UpdateView) (ys : List ℕ) (i : ℕ) (u : UpdateView) (v : List ℕ) (ids ids' : List (List ℕ)) → i < length ys → Some u ≡ slice_get H (get_or ys i 0) → v ≡ u.id → ids' ≡ ids ++ v ∷ [] → ids ≡ ids_of (graph_of (picked H (take i ys))) → ids' ≡ ids_of (graph_of (picked H (take (i + 1) ys)))
head_next H ys i u v ids ids' l at e more before = more ∙ (λ k. before k ++ e k ∷ []) ∙ sym (ap (λ (us : List UpdateView). ids_of (graph_of us)) parts ∙ ap ids_of (map-append entry_of (picked H (take i ys)) (u ∷ [])) ∙ map-append (λ (t : GraphEntry). t.id) (graph_of (picked H (take i ys))) (graph_of (u ∷ [])))
  where
    parts : picked H (take (i + 1) ys) ≡ picked H (take i ys) ++ u ∷ []
    parts = ap (picked H) (take_next ys i (get_or ys i 0) (place_at ys i l)) ∙ picked-append H (take i ys) (get_or ys i 0 ∷ []) ∙ ap (λ (o : Option UpdateView). picked H (take i ys) ++ with_found o []) (sym at)

picked_few : (H : List UpdateView) (ns : List ℕ) → length (picked H ns) ≤ length ns
picked_few H [] = omega arith
picked_few H (n ∷ ns) = go (slice_get H n) (picked_few H ns)
  where
    go : (o : Option UpdateView) → length (picked H ns) ≤ length ns → length (with_found o (picked H ns)) ≤ suc (length ns)
    go None l = omega (arith, l)
    go (Some u) l = omega (arith, l)

pub heads_few : (H : List UpdateView) (ys : List ℕ) (i : ℕ) (ids : List (List ℕ)) → ids ≡ ids_of (graph_of (picked H (take i ys))) → length ids ≤ length ys
heads_few H ys i ids e = let a = ap length e in let b = ids_length (graph_of (picked H (take i ys))) in let d = length-map (picked H (take i ys)) entry_of in let f = picked_few H (take i ys) in let g = length-take i ys in omega (arith, a, b, d, f, g)
