-- A replica that is made of two lists, one update after the other.
use Rattle.std.proofs.Common.{◌≡◌, ◌≢◌, ℕ, ◌<◌, ◌≤◌, ◌+◌, ◌-◌, List, Bool, not, [], ◌∷◌, ◌++◌, refl, sym, ap, subst, ◌∙◌, inl, arith, length, take, reverse, Some, zero, suc, length-append, append_assoc, append-nil}
use Rattle.std.proofs.lemmas.List.{take_all, length-reverse, length-map}
use Rattle.std.proofs.lemmas.List.Filters.{length-filter_both}
use Rattle.std.specs.List.{Contains, slice_get}
use Rattle.braid_ids.proofs.Inserted.{rising_within}
use Rattle.braid_change.specs.Updates.{UpdateView}
use Rattle.braid_graph.specs.Entries.{ids_of}
use Rattle.braid_graph.specs.Frontiers.{heads_of, is_head}
use Rattle.braid_graph.proofs.Collected.{ids_length}
use Rattle.braid_graph.proofs.Kept.{take_next}
use Rattle.braid_text.specs.Histories.{entry_of, graph_of, IsLegal, MayFollow, elements_of, deletions_of}
use Rattle.braid_text.specs.Refusals.{first_missing}
use Rattle.braid_text.specs.Answers.{answer_to, room_of}
use Rattle.braid_text.specs.declared.room.Room.{Room}
use Rattle.braid_text.specs.declared.accept.Accept.{Accept}
use Rattle.braid_text.specs.declared.accept.Accept.TheVariants.{New}
use Rattle.braid_text.proofs.Judged.{missing_none}
use Rattle.braid_text.proofs.Logs.{follows_held}
use Rattle.braid_text.proofs.Public.{legal_more, new_exact, width_after}
use Rattle.braid_outbox.specs.Replicas.{ReplicaView, IsChained, all_of, frontier, limits_with}
use Rattle.braid_outbox.specs.Writes.{last_id}
use Rattle.braid_outbox.specs.Kept.{replica_in, IsKept}
use Rattle.braid_outbox.specs.declared.faults.BadReplica.{BadReplica}
use Rattle.braid_outbox.specs.declared.faults.BadReplica.TheVariants.{Entry, Memory}
use Rattle.braid_outbox.specs.Made.{IsFine, IsFirstBad, IsFirstFault, IsTooWide, IsBadReplica, MakesReplica}
use Rattle.braid_outbox.proofs.Keeping.{alike, elements_grow, deletions_grow}
use Rattle.braid_outbox.proofs.ReadNow.{few_now}

-- a frontier has no more members than there are updates
pub frontier_few : (us : List UpdateView) → length (frontier us) ≤ length us
frontier_few us = omega (arith, rising_within (heads_of (graph_of us)), length-filter_both (is_head (graph_of us)) (λ (v : List ℕ). not (is_head (graph_of us) v)) (λ v. refl) (ids_of (graph_of us)), ids_length (graph_of us), length-map us entry_of)

-- an update with which the counts are within the limits, and the history is legal, is answered New
pub is_new : (H : List UpdateView) (u : UpdateView) → IsLegal H → IsLegal (H ++ u ∷ []) → length (H ++ u ∷ []) ≤ 524288 → length (elements_of (H ++ u ∷ [])) ≤ 33554432 → length (deletions_of (H ++ u ∷ [])) ≤ 67108864
    → answer_to (room_of (limits_with 1000000) H) H u ≡ New
is_new H u legal more versions elements deletions = (new_exact (room_of (limits_with 1000000) H) H u legal f.named f.rising f.built).1 (
  more,
  record {
    versions = let l = length-reverse H in let a = length-append H (u ∷ []) in omega (arith, l, a, versions);
    elements = let g = elements_grow H u in omega (arith, g, elements);
    deletions = let g = deletions_grow H u in omega (arith, g, deletions);
    width = let w = width_after H u in let b = frontier_few (H ++ u ∷ []) in omega (arith, w, b, versions);
  },
)
  where
    f : MayFollow H u
    f = ((legal_more H u).0 more).1

-- the replica's own lists
counts_same : (a b l : ℕ) → l ≡ a + b → l - a ≡ l - b → a ≡ b
counts_same a b l e s = omega (arith, e, s)

pub fine_now : (agent : List ℕ) (H : List UpdateView) (ns : List ℕ) (c : ℕ) (flags : List Bool) (k : IsKept agent H ns c flags) (q : ReplicaView) (e : replica_in agent H ns c ≡ q) → IsFine q.confirmed q.unsent
fine_now agent H ns c flags k q e = subst (λ (r : ReplicaView). IsFine r.confirmed r.unsent) e (record {
  legal = k.sound.legal;
  chained = k.sound.chained;
  versions = few_now agent H ns c flags k (replica_in agent H ns c) refl;
  elements = let s = k.elements in omega (arith, s, counts_same (length (elements_of all)) (length (elements_of H)) (length (elements_of all) + length (elements_of H)) refl (ap (λ (t : Room). t.elements) (rooms (length (elements_of all) + length (elements_of H)))));
  deletions = let s = k.deletions in omega (arith, s, counts_same (length (deletions_of all)) (length (deletions_of H)) (length (deletions_of all) + length (deletions_of H)) refl (ap (λ (t : Room). t.deletions) (rooms (length (deletions_of all) + length (deletions_of H)))));
})
  where
    all : List UpdateView
    all = all_of (replica_in agent H ns c)

    rooms : (n : ℕ) → room_of (record { versions = n; elements = n; deletions = n; width = n }) all ≡ room_of (record { versions = n; elements = n; deletions = n; width = n }) H
    rooms n = (alike agent H ns c flags k).room (record { versions = n; elements = n; deletions = n; width = n })

-- why a confirmed update is not taken
pub parent_lacks : (q : ReplicaView) (u : UpdateView) (p : List ℕ) (F : List (List ℕ)) → q.unsent ≡ [] → Some p ≡ first_missing F (reverse q.confirmed) → F ≡ u.parents → IsFine (q.confirmed ++ u ∷ []) [] → ⊥
parent_lacks q u p F none e same fine = let m = missing_none u.parents (reverse q.confirmed) (follows_held (reverse q.confirmed) u f) in let s = e ∙ ap (λ (G : List (List ℕ)). first_missing G (reverse q.confirmed)) same ∙ m in cc
  where
    f : MayFollow q.confirmed u
    f = ((legal_more q.confirmed u).0 (subst IsLegal (append-nil (q.confirmed ++ u ∷ [])) fine.legal)).1

fine_next : (H : List UpdateView) (C O : List UpdateView) (u : UpdateView) → C ++ O ≡ H ++ u ∷ [] → IsFine C O → IsLegal H → answer_to (room_of (limits_with 1000000) H) H u ≡ New
fine_next H C O u e fine legal = is_new H u legal (subst IsLegal e fine.legal) (subst (λ (K : List UpdateView). length K ≤ 524288) e fine.versions) (subst (λ (K : List UpdateView). length (elements_of K) ≤ 33554432) e fine.elements) (subst (λ (K : List UpdateView). length (deletions_of K) ≤ 67108864) e fine.deletions)

pub confirmed_refused : (q : ReplicaView) (u w : UpdateView) (a : Accept) → w ≡ u → q.unsent ≡ [] → IsFine q.confirmed q.unsent → a ≡ answer_to (room_of (limits_with 1000000) (all_of q)) (all_of q) w → a ≢ New → IsFine (q.confirmed ++ u ∷ []) [] → ⊥
confirmed_refused q u w a same none now e other fine = other (e ∙ ap (answer_to (room_of (limits_with 1000000) (all_of q)) (all_of q)) same
    ∙ fine_next (all_of q) (q.confirmed ++ u ∷ []) [] u (append-nil (q.confirmed ++ u ∷ []) ∙ ap (λ (t : List UpdateView). t ++ u ∷ []) (sym (append-nil q.confirmed) ∙ ap (λ (t : List UpdateView). q.confirmed ++ t) (sym none))) fine now.legal)

pub unsent_refused : (q : ReplicaView) (u w : UpdateView) (a : Accept) → w ≡ u → IsFine q.confirmed q.unsent → a ≡ answer_to (room_of (limits_with 1000000) (all_of q)) (all_of q) w → a ≢ New → IsFine q.confirmed (q.unsent ++ u ∷ []) → ⊥
unsent_refused q u w a same now e other fine = other (e ∙ ap (answer_to (room_of (limits_with 1000000) (all_of q)) (all_of q)) same
    ∙ fine_next (all_of q) q.confirmed (q.unsent ++ u ∷ []) u (sym (append_assoc q.confirmed q.unsent (u ∷ []))) fine now.legal)

-- a chain's last update is named by what comes behind it
pub chain_named : (os : List UpdateView) (u : UpdateView) → IsChained (os ++ u ∷ []) → (v : List ℕ) → last_id os ≡ Some v → Contains u.parents v
chain_named [] u c v e = cc
chain_named (x ∷ []) u c v e = let f : x.id ≡ v = cc in subst (Contains u.parents) f c.0
chain_named (x ∷ y ∷ os) u c v e = chain_named (y ∷ os) u c.1 v e

pub none_last : (os : List UpdateView) → length os ≡ 0 → (v : List ℕ) → last_id os ≡ Some v → ⊥
none_last [] l v e = cc
none_last (x ∷ os) l v e = omega (arith, l)

last_at : (os : List UpdateView) (n : ℕ) (u : UpdateView) → n + 1 ≡ length os → slice_get os n ≡ Some u → last_id os ≡ Some u.id
last_at [] n u l e = cc
last_at (x ∷ []) zero u l e = let f : x ≡ u = cc in ap (λ (t : UpdateView). Some t.id) f
last_at (x ∷ []) (suc n) u l e = absurd (omega (arith, l))
last_at (x ∷ y ∷ os) zero u l e = absurd (omega (arith, l))
last_at (x ∷ y ∷ os) (suc n) u l e = last_at (y ∷ os) n u (omega (arith, l)) e

behind : (cs os : List UpdateView) (i j : ℕ) → i ≡ length cs + j → slice_get (cs ++ os) i ≡ slice_get os j
behind [] os i j e = ap (slice_get os) (let f : i ≡ j = omega (arith, e) in f)
behind (x ∷ cs) os zero j e = absurd (omega (arith, e))
behind (x ∷ cs) os (suc i) j e = behind cs os i j (omega (arith, e))

pub last_entry : (q : ReplicaView) (n i : ℕ) (u : UpdateView) → n ≡ length q.unsent → (n ≡ 0 → ⊥) → i ≡ length q.confirmed + n - 1 → Some u ≡ slice_get (all_of q) i → last_id q.unsent ≡ Some u.id
last_entry q n i u l some at e = last_at q.unsent (n - 1) u (omega (arith, l, some)) (sym (behind q.confirmed q.unsent i (n - 1) (omega (arith, at, some))) ∙ sym e)

-- the first entries of both lists
abbrev nothing : List UpdateView
nothing = []

pub take_none : (n : ℕ) → take n nothing ≡ nothing
take_none zero = refl
take_none (suc n) = refl

pub bad_before : (C O : List UpdateView) (n : ℕ) → n < length C → IsFirstBad C [] n → IsFirstBad C O n
bad_before C O n l b = record {
  there = omega (arith, l, length-append C O);
  before = subst (λ (m : ℕ). IsFine (take n C) (take m O)) (sym (let z : n - length C ≡ 0 = omega (arith, l) in z)) (subst (IsFine (take n C)) (take_none (n - length C)) b.before);
  bad = λ h. b.bad (subst (IsFine (take (n + 1) C)) (sym (take_none ((n + 1) - length C))) (subst (λ (m : ℕ). IsFine (take (n + 1) C) (take m O)) (let z : (n + 1) - length C ≡ 0 = omega (arith, l) in z) h));
}

pub unsent_bad : (C O : List UpdateView) (j n : ℕ) (u : UpdateView) → Some u ≡ slice_get O j → j < length O → n ≡ length C + j → IsFine C (take j O) → (IsFine C (take j O ++ u ∷ []) → ⊥) → IsFirstBad C O n
unsent_bad C O j n u at l e fine bad = record {
  there = omega (arith, l, e, length-append C O);
  before = subst (λ (t : List UpdateView). IsFine t (take (n - length C) O)) (sym (take_all n C (omega (arith, e)))) (subst (λ (m : ℕ). IsFine C (take m O)) (let z : j ≡ n - length C = omega (arith, e) in z) fine);
  bad = λ h. bad (subst (IsFine C) (take_next O j u (sym at)) (subst (λ (m : ℕ). IsFine C (take m O)) (let z : (n + 1) - length C ≡ j + 1 = omega (arith, e) in z) (subst (λ (t : List UpdateView). IsFine t (take ((n + 1) - length C) O)) (take_all (n + 1) C (omega (arith, e))) h)));
}

-- why two lists make no replica
pub first_fault : (C O : List UpdateView) (fault : BadReplica) → IsFirstFault C [] fault → IsBadReplica C O fault
first_fault C O (Entry n) b = inl (bad_before C O n (omega (arith, b.there, length-append C nothing)) b)
first_fault C O Memory b = tt

pub second_fault : (B C O : List UpdateView) (fault : BadReplica) → B ≡ C → IsFirstFault B O fault → IsBadReplica C O fault
second_fault B C O (Entry n) e b = inl (subst (λ (D : List UpdateView). IsFirstBad D O n) e b)
second_fault B C O Memory e b = tt

pub too_wide : (q : ReplicaView) (C O : List UpdateView) (width n : ℕ) → q.confirmed ≡ C → q.unsent ≡ O → IsFine q.confirmed q.unsent → width ≡ length (frontier (all_of q)) → 2000 < width → n + 1 ≡ length q.confirmed + length q.unsent → IsTooWide C O n
too_wide q C O width n e f fine w wide l = subst (λ (D : List UpdateView). IsTooWide D O n) e (subst (λ (D : List UpdateView). IsTooWide q.confirmed D n) f (record {
  fine = fine;
  wide = omega (arith, w, wide);
  last = omega (arith, l, length-append q.confirmed q.unsent);
}))

pub makes : (q : ReplicaView) (C O : List UpdateView) (width : ℕ) → q.confirmed ≡ C → q.unsent ≡ O → IsFine q.confirmed q.unsent → width ≡ length (frontier (all_of q)) → width ≤ 2000 → MakesReplica C O
makes q C O width e f fine w narrow = subst (λ (D : List UpdateView). MakesReplica D O) e (subst (λ (D : List UpdateView). MakesReplica q.confirmed D) f (record { fine = fine; narrow = omega (arith, w, narrow) }))
