-- What a write rests on: the agent's numbers, the next pure merge at each step, and what a change needs.
use Rattle.std.proofs.Common.{◌≡◌, ◌↔◌, ℕ, ◌<◌, ◌≤◌, ◌+◌, ◌-◌, ◌^◌, List, Bool, true, false, ◌&&◌, not, cond, nat_lt, nat_le, [], ◌∷◌, ◌++◌, refl, sym, ap, subst, ◌∙◌, inl, arith, length, min, filter, take, reverse, Option, None, Some, is_some, unwrap_or, zero, suc, length-append, append_assoc, append-nil}
use Rattle.std.proofs.lemmas.List.{reverse-append, take_all, take-append-le, take-append-drop, length-map}
use Rattle.std.proofs.lemmas.List.Elements.{filter-append}
use Rattle.std.proofs.lemmas.List.Filters.{length-filter_both}
use Rattle.std.proofs.lemmas.List.Sums.{sum_by-cons}
use Rattle.std.specs.List.{Contains, slice_get}
use Rattle.std.specs.Option.{option_map}
use Rattle.std.specs.declared.result.Result.{Result}
use Rattle.std.specs.declared.result.Result.TheVariants.{Ok, Err}
use Rattle.std.specs.Result.{IfOk, IfErr, OnErr}
use Rattle.std.specs.Ordering.{is_eq}
use Rattle.std.specs.Cmp.Lexicographic.{pointwise}
use Rattle.std.proofs.Common.{nat_eq, drop}
use Rattle.braid_ids.specs.Identifiers.{id_cmp}
use Rattle.braid_ids.specs.Agents.{IsAgent, agent_name}
use Rattle.braid_ids.specs.Frontiers.{IsRising, rising_ids}
use Rattle.braid_ids.proofs.Inserted.{member_rising, member_from_rising, rises_ids}
use Rattle.braid_change.specs.declared.patch.Patch.{Patch}
use Rattle.braid_change.specs.declared.change.Change.{Change}
use Rattle.braid_change.specs.declared.change.Change.TheVariants.{Body, Patches}
use Rattle.braid_change.specs.Changes.{IsShaped}
use Rattle.braid_change.specs.Updates.{UpdateView}
use Rattle.braid_change.specs.Splices.{cut, ranges, spliced, inserted, removed}
use Rattle.braid_change.proofs.Pieces.{splice_len}
use Rattle.braid_graph.proofs.Kept.{take_next}
use Rattle.braid_rebase.specs.Additions.{char_of}
use Rattle.braid_rebase.proofs.Joins.{inserts_few}
use Rattle.braid_rebase.proofs.Members.{contains_member, member_contains}
use Rattle.braid_text.specs.Versions.{sees}
use Rattle.braid_text.specs.Histories.{text_of, text_at, seen_at, ancestors_at, document_of, elements_of}
use Rattle.braid_text.specs.Refusals.{first_full}
use Rattle.braid_text.specs.Answers.{IsOver, room_of}
use Rattle.braid_text.specs.declared.room.Room.{Room}
use Rattle.braid_text.specs.declared.room.Which.{Which}
use Rattle.braid_text.proofs.Public.{frontier_log, needs_elements, needs_deletions, document_counted}
use Rattle.braid_text.proofs.Whole.{and_cases}
use Rattle.braid_outbox.specs.Shapes.{is_change}
use Rattle.braid_text.specs.Rooms.{replica_limits}
use Rattle.braid_outbox.specs.Replicas.{ReplicaView, IsSound, all_of, log_of, frontier, number, greatest_number}
use Rattle.braid_outbox.specs.Writes.{next_in, last_id, merged_of, merge_parents, merges_in, merges_of, merges_needed, next_merge, last_number, write_needs, is_written, with_unsent, AddsMerges}
use Rattle.braid_outbox.proofs.Shapes.{lt_from, shaped_from}
use Rattle.braid_outbox.proofs.Names.{number_name, number_is, next_greatest}
use Rattle.braid_outbox.proofs.Calls.{other_id, same_id}
use Rattle.braid_outbox.proofs.Fronts.{merge_names, same_rising}
use Rattle.braid_outbox.proofs.Merges.{turned, last_more}
use Rattle.braid_outbox.proofs.Additions.{merges_well, merges_counted, last_in}

-- the number of an identifier
pub number_found : (a v : List ℕ) (k : ℕ) → 1 ≤ k → k < 2 ^ 64 → v ≡ agent_name a k → k ≡ unwrap_or (number a v) 0
number_found a v k pos small e = sym (ap (λ (w : List ℕ). unwrap_or (number a w) 0) e ∙ ap (λ (o : Option ℕ). unwrap_or o 0) (number_name a k pos small))

pub number_none : (a v : List ℕ) → ((k : ℕ) → 1 ≤ k → k < 2 ^ 64 → v ≡ agent_name a k → ⊥) → 0 ≡ unwrap_or (number a v) 0
number_none a v h = go (number a v) refl
  where
    go : (o : Option ℕ) → number a v ≡ o → 0 ≡ unwrap_or o 0
    go None e = refl
    go (Some k) e = let n = number_is a v k e in absurd (h k n.1 n.2 n.0)

-- the merge that is made at each step
pub record IsStep (a : List ℕ) (us os ms : List UpdateView) (i : ℕ) : Type 0 where
  pub at : slice_get ms i ≡ Some (next_in a (reverse (take i ms) ++ us) (merge_parents (last_id (os ++ take i ms)) (frontier (reverse (take i ms) ++ us))) (Patches []))
  pub number : greatest_number a (reverse (take i ms) ++ us) ≡ greatest_number a us + i

pub merges_step : (n : ℕ) (a : List ℕ) (last : Option (List ℕ)) (us os : List UpdateView) (i : ℕ) → last ≡ last_id os → greatest_number a us + length (merges_in n a last us) < 2 ^ 64 → i < length (merges_in n a last us)
    → IsStep a us os (merges_in n a last us) i
merges_step zero a last us os i e small l = absurd (omega (arith, l))
merges_step (suc n) a last us os i e small l = go (nat_le (length F) 32) small l (λ j s k. merges_step n a (Some m.id) (m ∷ us) (os ++ m ∷ []) j (sym (last_more os m)) s k)
  where
    F : List (List ℕ)
    F = frontier us

    m : UpdateView
    m = next_in a us (merge_parents last F) (Patches [])

    more : List UpdateView
    more = merges_in n a (Some m.id) (m ∷ us)

    first : IsStep a us os (m ∷ more) 0
    first = record {
      at = ap (λ (o : Option (List ℕ)). Some (next_in a us (merge_parents o F) (Patches []))) (e ∙ ap last_id (sym (append-nil os)));
      number = omega arith;
    }

    later : (j : ℕ) → 1 + greatest_number a us < 2 ^ 64 → IsStep a (m ∷ us) (os ++ m ∷ []) more j → IsStep a us os (m ∷ more) (suc j)
    later j one s = record {
      at = s.at ∙ (λ i. Some (next_in a (logs i) (merge_parents (last_id (append_assoc os (m ∷ []) (take j more) i)) (frontier (logs i))) (Patches [])));
      number = let g = next_greatest a us m one refl in let t = ap (greatest_number a) logs in let h = s.number in omega (arith, g, t, h);
    }
      where
        logs : reverse (take j more) ++ m ∷ us ≡ reverse (m ∷ take j more) ++ us
        logs = sym (turned m (take j more) us)

    go : (b : Bool) → greatest_number a us + length (cond b [] (m ∷ more)) < 2 ^ 64 → i < length (cond b [] (m ∷ more))
        → ((j : ℕ) → greatest_number a (m ∷ us) + length more < 2 ^ 64 → j < length more → IsStep a (m ∷ us) (os ++ m ∷ []) more j) → IsStep a us os (cond b [] (m ∷ more)) i
    go true s k ih = absurd (omega (arith, k))
    go false s k ih = by i k
      where
        by : (i : ℕ) → i < length (m ∷ more) → IsStep a us os (m ∷ more) i
        by zero k = first
        by (suc j) k = let one : 1 + greatest_number a us < 2 ^ 64 = omega (arith, s) in let g = next_greatest a us m one refl in later j one (ih j (omega (arith, g, s)) (omega (arith, k)))

-- the log of a replica with more unsent updates
pub log_with : (r : ReplicaView) (ms : List UpdateView) → log_of (with_unsent r ms) ≡ reverse ms ++ log_of r
log_with r ms = ap reverse (sym (append_assoc r.confirmed r.unsent ms)) ∙ reverse-append (r.confirmed ++ r.unsent) ms

pub more_unsent : (r : ReplicaView) (xs ys : List UpdateView) → with_unsent (with_unsent r xs) ys ≡ with_unsent r (xs ++ ys)
more_unsent r xs ys = ap (λ (t : List UpdateView). record { agent = r.agent; confirmed = r.confirmed; unsent = t }) (append_assoc r.unsent xs ys)

none_unsent : (r : ReplicaView) → r ≡ with_unsent r []
none_unsent r = ap (λ (t : List UpdateView). record { agent = r.agent; confirmed = r.confirmed; unsent = t }) (sym (append-nil r.unsent))

module _ (r : ReplicaView) (agent : IsAgent r.agent) (sound : IsSound r) (count first : ℕ) (counted : count ≡ merges_needed (length (frontier (all_of r)))) (begins : first ≡ 1 + greatest_number r.agent (log_of r)) (small : first + count < 2 ^ 64) where
  abbrev ms : List UpdateView
  ms = merges_of r

  pub size : length ms ≡ count
  size = merges_counted r agent sound (omega (arith, counted, begins, small)) ∙ sym counted

  within : greatest_number r.agent (log_of r) + length ms < 2 ^ 64
  within = let s = size in omega (arith, s, begins, small)

  step : (i : ℕ) → i < count → IsStep r.agent (log_of r) r.unsent ms i
  step i l = merges_step (length (frontier (log_of r))) r.agent (last_id r.unsent) (log_of r) r.unsent i refl within (let s = size in omega (arith, s, l))

  pub merge_number : (q : ReplicaView) (i : ℕ) → i < count → q ≡ with_unsent r (take i ms) → first + i ≡ 1 + greatest_number q.agent (log_of q)
  merge_number q i l e = let n = (step i l).number in let s = ap (λ (t : ReplicaView). greatest_number t.agent (log_of t)) e in let d = ap (greatest_number r.agent) (log_with r (take i ms)) in omega (arith, n, s, d, begins)

  next_is : (i : ℕ) → i < count → slice_get ms i ≡ Some (next_merge (with_unsent r (take i ms)))
  next_is i l = (step i l).at ∙ (λ j. Some (next_in r.agent (logs j) (merge_parents (last_id (r.unsent ++ take i ms)) (frontier (logs j))) (Patches [])))
    where
      logs : reverse (take i ms) ++ log_of r ≡ log_of (with_unsent r (take i ms))
      logs = sym (log_with r (take i ms))

  pub merge_added : (q s : ReplicaView) (i : ℕ) → i < count → q ≡ with_unsent r (take i ms) → s ≡ with_unsent q (next_merge q ∷ []) → s ≡ with_unsent r (take (i + 1) ms)
  merge_added q s i l e f = f ∙ ap (λ (t : ReplicaView). with_unsent t (next_merge t ∷ [])) e ∙ more_unsent r (take i ms) (next_merge (with_unsent r (take i ms)) ∷ [])
      ∙ ap (with_unsent r) (sym (take_next ms i (next_merge (with_unsent r (take i ms))) (next_is i l)))

  pub all_added : (q : ReplicaView) (i : ℕ) → count ≤ i → q ≡ with_unsent r (take i ms) → q ≡ with_unsent r ms
  all_added q i far e = e ∙ ap (with_unsent r) (take_all i ms (let s = size in omega (arith, s, far)))

  -- after the merges
  pub change_number : (q : ReplicaView) → q ≡ with_unsent r ms → first + count ≡ 1 + greatest_number q.agent (log_of q)
  change_number q e = let g = (merges_well r agent sound within).greatest in let s = ap (λ (t : ReplicaView). greatest_number t.agent (log_of t)) e in let d = ap (greatest_number r.agent) (log_with r ms) in let z = size in omega (arith, g, s, d, z, begins)

  pub last_is : first + count ≡ last_number r
  last_is = omega (arith, begins, counted)

pub numbers_fit : (limits : Room) (r : ReplicaView) (c : Change) → is_written limits r c ≡ true → last_number r < 2 ^ 64
numbers_fit limits r c due = lt_from (last_number r) (2 ^ 64) (and_cases n f (and_cases s (n && f) (and_cases (is_change c) (s && (n && f)) due).1).1).0
  where
    s : Bool
    s = is_some (spliced (text_of (all_of r)) c)

    n : Bool
    n = nat_lt (last_number r) (2 ^ 64)

    f : Bool
    f = not (is_some (first_full (write_needs r c) (room_of limits (all_of r))))

-- what is left where nothing, or not all, was added
pub adds_none : (limits : Room) (r q : ReplicaView) (c : Change) → q ≡ r → AddsMerges limits r c q
adds_none limits r q c e = record { count = 0; added = e ∙ none_unsent r; due = λ l. absurd (omega (arith, l)) }

pub adds_all : (limits : Room) (r q s : ReplicaView) (c : Change) → is_written limits r c ≡ true → q ≡ with_unsent r (merges_of r) → s ≡ q → AddsMerges limits r c s
adds_all limits r q s c due e f = record { count = length (merges_of r); added = f ∙ e ∙ ap (with_unsent r) (sym (take_all (length (merges_of r)) (merges_of r) (omega arith))); due = λ l. due }

-- the next pure merge names the last unsent update
pub merge_chained : (r : ReplicaView) (m : UpdateView) → m ≡ next_merge r → (v : List ℕ) → last_id r.unsent ≡ Some v → Contains m.parents v
merge_chained r m e v f = subst (λ (t : UpdateView). Contains t.parents v) (sym e) (subst (λ (o : Option (List ℕ)). Contains (merge_parents o F) v) (sym f) (member_contains (merge_parents (Some v) F) v (merge_names v F)))
  where
    F : List (List ℕ)
    F = frontier (log_of r)

-- a change at the frontier names it too
pub change_chained : (r : ReplicaView) (ps F : List (List ℕ)) → IsSound r → ps ≡ frontier (all_of r) → F ≡ ps → (v : List ℕ) → last_id r.unsent ≡ Some v → Contains F v
change_chained r ps F sound e f v h = subst (λ (G : List (List ℕ)). Contains G v) (sym (f ∙ e)) (subst (λ (G : List (List ℕ)). Contains G v) (frontier_log (all_of r)) (member_contains (frontier (log_of r)) v (last_in r.confirmed r.unsent sound.legal v h)))

pub change_next : (r : ReplicaView) (u : UpdateView) (a id : List ℕ) (n : ℕ) (ps : List (List ℕ)) (copy c : Change) → u ≡ record { id = id; parents = ps; change = copy } → id ≡ agent_name a n → a ≡ r.agent → n ≡ 1 + greatest_number r.agent (log_of r) → ps ≡ frontier (all_of r) → copy ≡ c
    → u ≡ next_in r.agent (log_of r) (frontier (log_of r)) c
change_next r u a id n ps copy c e f g h i j = e ∙ (λ k. record { id = (f ∙ (λ l. agent_name (g l) (h l))) k; parents = (i ∙ sym (frontier_log (all_of r))) k; change = j k })

-- identifiers in rising order are the parents of a merge
pub parents_are : (last : Option (List ℕ)) (F ids G : List (List ℕ)) → ids ≡ merged_of last F → IsRising G → ((v : List ℕ) → Contains G v ↔ Contains ids v) → G ≡ merge_parents last F
parents_are last F ids G e rising same = same_rising G (rising_ids (merged_of last F)) rising (rises_ids (merged_of last F))
    (λ v m. member_rising v (merged_of last F) (contains_member (merged_of last F) v (subst (λ (t : List (List ℕ)). Contains t v) e ((same v).0 (member_contains G v m)))))
    (λ v m. contains_member G v ((same v).1 (subst (λ (t : List (List ℕ)). Contains t v) (sym e) (member_contains (merged_of last F) v (member_from_rising v (merged_of last F) m)))))

pub parents_ok : {E : Type 0} (r : ReplicaView) (F ids : List (List ℕ)) (res : Result (List (List ℕ)) E) → F ≡ frontier (all_of r) → ids ≡ merged_of (last_id r.unsent) F → IfOk res IsRising → IfOk res (λ (G : List (List ℕ)). (v : List ℕ) → Contains G v ↔ Contains ids v)
    → IfOk res (λ (G : List (List ℕ)). G ≡ merge_parents (last_id r.unsent) (frontier (log_of r)))
parents_ok r F ids (Ok G) e f rising same = parents_are (last_id r.unsent) F ids G f rising same ∙ ap (merge_parents (last_id r.unsent)) (e ∙ sym (frontier_log (all_of r)))
parents_ok r F ids (Err x) e f rising same = rising

-- the identifiers but the last unsent update's
abbrev pub is_other : List ℕ → List ℕ → Bool
is_other v w = not (is_eq (id_cmp v w))

pub other_pushed : (v w x : List ℕ) (ids ids' : List (List ℕ)) → true ≡ not (pointwise nat_eq w v) → x ≡ w → ids' ≡ ids ++ x ∷ [] → ids' ≡ ids ++ filter (is_other v) (w ∷ [])
other_pushed v w x ids ids' h e f = f ∙ ap (λ (y : List ℕ). ids ++ y ∷ []) e ∙ ap (λ (b : Bool). ids ++ cond (not b) (w ∷ []) []) (sym (other_id v w h))

pub same_left : (v w : List ℕ) (ids : List (List ℕ)) → false ≡ not (pointwise nat_eq w v) → ids ≡ ids ++ filter (is_other v) (w ∷ [])
same_left v w ids h = sym (append-nil ids) ∙ ap (λ (b : Bool). ids ++ cond (not b) (w ∷ []) []) (sym (same_id v w h))

filter_one : (v w : List ℕ) → length (filter (is_other v) (w ∷ [])) ≤ 1
filter_one v w = go (is_other v w)
  where
    go : (b : Bool) → length (cond b (w ∷ []) []) ≤ 1
    go true = omega arith
    go false = omega arith

pub merged_next : (v : List ℕ) (F ids ids' : List (List ℕ)) (n : ℕ) (x y : List ℕ) → (ids ≡ v ∷ filter (is_other v) (take n F)) × (length ids ≤ 32) → (length ids ≡ 32 → ⊥) → Some x ≡ slice_get F n → y ≡ x → ids' ≡ ids ++ filter (is_other v) (y ∷ [])
    → (ids' ≡ v ∷ filter (is_other v) (take (n + 1) F)) × (length ids' ≤ 32)
merged_next v F ids ids' n x y k other at e f = (
  f ∙ (λ i. k.0 i ++ filter (is_other v) (e i ∷ [])) ∙ ap (λ (t : List (List ℕ)). v ∷ t) (sym (filter-append (is_other v) (take n F) (x ∷ []))) ∙ ap (λ (t : List (List ℕ)). v ∷ filter (is_other v) t) (sym (take_next F n x (sym at))),
  omega (arith, ap length f, length-append ids (filter (is_other v) (y ∷ [])), filter_one v y, k.1, other),
)

pub merged_full : (v : List ℕ) (F ids : List (List ℕ)) (n : ℕ) → (ids ≡ v ∷ filter (is_other v) (take n F)) × (length ids ≤ 32) → length ids ≡ 32 → ids ≡ v ∷ take 31 (filter (is_other v) F)
merged_full v F ids n k full = k.0 ∙ ap (λ (t : List (List ℕ)). v ∷ t) (sym (ap (λ (t : List (List ℕ)). take 31 (filter (is_other v) t)) (sym (take-append-drop n F)) ∙ ap (take 31) (filter-append (is_other v) (take n F) (drop n F))
    ∙ take-append-le 31 (filter (is_other v) (take n F)) (filter (is_other v) (drop n F)) (omega (arith, size)) ∙ take_all 31 (filter (is_other v) (take n F)) (omega (arith, size))))
  where
    size : length (filter (is_other v) (take n F)) ≡ 31
    size = omega (arith, full, ap length k.0)

pub merged_end : (v : List ℕ) (F ids : List (List ℕ)) (n : ℕ) → (ids ≡ v ∷ filter (is_other v) (take n F)) × (length ids ≤ 32) → length F ≤ n → ids ≡ v ∷ take 31 (filter (is_other v) F)
merged_end v F ids n k far = k.0 ∙ ap (λ (t : List (List ℕ)). v ∷ filter (is_other v) t) (take_all n F far) ∙ ap (λ (t : List (List ℕ)). v ∷ t) (sym (take_all 31 (filter (is_other v) F) (omega (arith, k.1, ap length (k.0 ∙ ap (λ (t : List (List ℕ)). v ∷ filter (is_other v) t) (take_all n F far))))))

-- no identifiers make no parents
pub no_parents : (ids G : List (List ℕ)) → ids ≡ [] → ((v : List ℕ) → Contains G v ↔ Contains ids v) → G ≡ []
no_parents ids [] e same = refl
no_parents ids (v ∷ G) e same = absurd (contains_member [] v (subst (λ (t : List (List ℕ)). Contains t v) e ((same v).0 (member_contains (v ∷ G) v (inl refl)))))

-- what a change needs
text_short : (H : List UpdateView) (F : List (List ℕ)) → length (text_at H F) ≤ length (elements_of H)
text_short H F = omega (arith, length-map (seen_at H F) char_of, length-filter_both (sees (ancestors_at H F)) (λ x. not (sees (ancestors_at H F) x)) (λ x. refl) (document_of H), document_counted H)

pub text_few : (r : ReplicaView) → length (elements_of (all_of r)) ≤ 33554432 → length (text_of (all_of r)) ≤ 33554432
text_few r few = omega (arith, few, text_short (all_of r) (frontier (all_of r)))

pub change_inserts : (r : ReplicaView) (c : Change) (rs : List Patch) (n : ℕ) → ranges (text_of (all_of r)) c ≡ Some rs → n ≡ inserted rs → n ≡ (write_needs r c).elements
change_inserts r c rs n e f = f ∙ sym (needs_elements (all_of r) (next_in r.agent (log_of r) (frontier (all_of r)) c) ∙ ap (λ (o : Option (List Patch)). inserted (unwrap_or o [])) e)

pub change_removes : (r : ReplicaView) (c : Change) (rs : List Patch) (n : ℕ) → is_change c ≡ true → ranges (text_of (all_of r)) c ≡ Some rs → n ≡ removed rs → n ≡ (write_needs r c).deletions
change_removes r c rs n shaped e f = f ∙ sym (needs_deletions (all_of r) (next_in r.agent (log_of r) (frontier (all_of r)) c) (shaped_from c shaped).0 ∙ ap (λ (o : Option (List Patch)). removed (unwrap_or o [])) e)

-- the counts of a change's ranges
pub body_counts : (t x : List ℕ) (len n : ℕ) (c : Change) → c ≡ Body x → length t ≡ len → n ≡ length x → (rs : List Patch) × (ranges t c ≡ Some rs) × (n ≡ inserted rs) × (len ≡ removed rs)
body_counts t x len n c e l f = (r ∷ [], ap (ranges t) e, omega (arith, f, sum_by-cons (λ (p : Patch). length p.text) r []), omega (arith, l, sum_by-cons (λ (p : Patch). p.end - p.start) r []))
  where
    r : Patch
    r = record { start = 0; end = length t; text = x }

pub patch_counts : (t : List ℕ) (len : ℕ) (ps list one two : List Patch) (i d : ℕ) → IsShaped (Patches ps) → len < 2 ^ 32 → length t ≡ len → ranges t (Patches ps) ≡ Some list → one ≡ list → two ≡ list → i ≡ min (inserted one) (2 ^ 64 - 1) → d ≡ min (removed two) (2 ^ 64 - 1)
    → (rs : List Patch) × (ranges t (Patches ps) ≡ Some rs) × (i ≡ inserted rs) × (d ≡ removed rs)
patch_counts t len ps list one two i d shaped small l e f g a b = (list, e, omega (arith, a, ap inserted f, few), omega (arith, b, ap removed g, few, size, l, small))
  where
    few : inserted list ≤ 1048576
    few = inserts_few t (Patches ps) list shaped e

    size : length (cut 0 t list) + removed list ≡ length t + inserted list
    size = splice_len t (cut 0 t list) (Patches ps) list shaped e (ap (option_map (cut 0 t)) e)

-- the first limit that is passed
pub over_room : (r : ReplicaView) (c : Change) (merges i d : ℕ) (room : Room) (which : Which) → merges ≡ merges_needed (length (frontier (all_of r))) → i ≡ (write_needs r c).elements → d ≡ (write_needs r c).deletions → room ≡ room_of replica_limits (all_of r)
    → (n : ℕ) × (left : ℕ) × IsOver (record { versions = 1 + merges; elements = i; deletions = d; width = 1 }) room which n left → (n : ℕ) × (left : ℕ) × IsOver (write_needs r c) (room_of replica_limits (all_of r)) which n left
over_room r c merges i d room which e f g h over = subst (λ (t : Room). (n : ℕ) × (left : ℕ) × IsOver t (room_of replica_limits (all_of r)) which n left) needs
    (subst (λ (t : Room). (n : ℕ) × (left : ℕ) × IsOver (record { versions = 1 + merges; elements = i; deletions = d; width = 1 }) t which n left) h over)
  where
    needs : (record { versions = 1 + merges; elements = i; deletions = d; width = 1 }) ≡ write_needs r c
    needs = λ k. record { versions = 1 + e k; elements = f k; deletions = g k; width = 1 }

-- a fault that is passed on
pub fault_passed : {A E : Type 0} (P : E → Type 0) (r : Result A E) (e f : E) → r ≡ Err e → e ≡ f → P f → IfErr r P
fault_passed {A = A} {E = E} P r e f h k p = subst (λ (x : Result A E). IfErr x P) (sym h) (subst P (sym k) p)

-- what holds anyway holds after an error
pub any_err : {A E P : Type 0} (r : Result A E) → P → OnErr r P
any_err (Ok x) p = tt
any_err (Err x) p = p

pub on_err : {A E : Type 0} (P : Type 0) (r : Result A E) → OnErr r P → ((x : A) → r ≡ Ok x → ⊥) → P
on_err P (Ok x) h n = absurd (n x refl)
on_err P (Err x) h n = h
