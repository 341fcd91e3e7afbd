-- What a write adds: a legal log, a chain, and names of the agent; and that a write is judged first.
use Rattle.std.proofs.Common.{◌≡◌, ◌<◌, ◌+◌, ◌^◌, List, [], ◌∷◌, ◌++◌, Bool, true, false, ◌&&◌, not, cond, nat_lt, refl, sym, ap, subst, ◌∙◌, inl, inr, ◌⊎◌, arith, length, reverse, append_assoc, Some, IsSome, is_some, ℕ}
use Rattle.std.proofs.lemmas.List.{reverse-append}
use Rattle.braid_ids.specs.Agents.{IsAgent}
use Rattle.braid_change.specs.declared.change.Change.{Change}
use Rattle.braid_change.specs.Updates.{UpdateView}
use Rattle.braid_change.specs.Splices.{spliced}
use Rattle.braid_tree.specs.Keys.{Key}
use Rattle.braid_tree.specs.Nodes.{Node}
use Rattle.braid_tree.specs.Trees.{Member}
use Rattle.braid_tree.proofs.Member.{member_append_cases}
use Rattle.braid_rebase.specs.Additions.{chars_of}
use Rattle.braid_rebase.proofs.Members.{member_contains}
use Rattle.braid_text.specs.Versions.{text_in, versions_in}
use Rattle.braid_text.specs.Histories.{Follows, IsLegalLog, text_of}
use Rattle.braid_text.specs.Refusals.{first_full}
use Rattle.braid_text.specs.Answers.{room_of}
use Rattle.braid_text.specs.declared.room.Room.{Room}
use Rattle.braid_text.proofs.Public.{frontier_log}
use Rattle.braid_outbox.specs.Shapes.{is_change}
use Rattle.braid_outbox.specs.Replicas.{ReplicaView, IsSound, IsChained, all_of, log_of, frontier, greatest_number}
use Rattle.braid_outbox.specs.Writes.{next_in, last_id, merges_of, merges_needed, last_number, additions, write_needs, with_unsent, write}
use Rattle.braid_outbox.proofs.Shapes.{built_from, lt_from}
use Rattle.braid_outbox.proofs.Names.{IsName}
use Rattle.braid_outbox.proofs.Fronts.{frontier_rises, newest_in}
use Rattle.braid_outbox.proofs.Counted.{merges_length}
use Rattle.braid_outbox.proofs.Merges.{Added, merges_good, next_follows, chained_more, last_split}

-- the log of a replica is its unsent updates above its confirmed ones
pub log_parts : (cs os : List UpdateView) → reverse (cs ++ os) ≡ reverse os ++ reverse cs
log_parts cs os = reverse-append cs os

pub log_more : (xs : List UpdateView) (u : UpdateView) → reverse (xs ++ u ∷ []) ≡ u ∷ reverse xs
log_more xs u = reverse-append xs (u ∷ [])

-- the last unsent update is in the frontier
pub last_in : (cs os : List UpdateView) → IsLegalLog (reverse (cs ++ os)) → (v : List ℕ) → last_id os ≡ Some v → Member v (frontier (reverse (cs ++ os)))
last_in cs os legal v e = go (last_split os v e)
  where
    go : (ys : List UpdateView) × (x : UpdateView) × (os ≡ ys ++ x ∷ []) × (x.id ≡ v) → Member v (frontier (reverse (cs ++ os)))
    go (ys, x, f, g) = subst (λ (ks : List UpdateView). Member v (frontier ks)) (sym top) (subst (λ (i : List ℕ). Member i (frontier (x ∷ reverse (cs ++ ys)))) g (newest_in x (reverse (cs ++ ys)) (subst IsLegalLog top legal)))
      where
        top : reverse (cs ++ os) ≡ x ∷ reverse (cs ++ ys)
        top = ap (λ t. reverse (cs ++ t)) f ∙ ap reverse (sym (append_assoc cs ys (x ∷ []))) ∙ log_more (cs ++ ys) x

-- what a write that went through leaves
pub record AddsWell (r : ReplicaView) (new : List UpdateView) : Type 0 where
  pub legal : IsLegalLog (reverse (r.confirmed ++ (r.unsent ++ new)))
  pub chained : IsChained (r.unsent ++ new)
  pub named : (u : UpdateView) → Member u new → IsName r.agent u.id

-- the same with what a step needs to know of the merges
pub merges_well : (r : ReplicaView) → IsAgent r.agent → IsSound r → greatest_number r.agent (log_of r) + length (merges_of r) < 2 ^ 64 → Added (length (frontier (log_of r))) r.agent (log_of r) r.unsent (merges_of r)
merges_well r agent sound small = merges_good (length (frontier (log_of r))) r.agent (last_id r.unsent) (log_of r) r.unsent agent sound.legal sound.chained refl (last_in r.confirmed r.unsent sound.legal) small

-- there are as many as the width needs
pub merges_counted : (r : ReplicaView) → IsAgent r.agent → IsSound r → greatest_number r.agent (log_of r) + merges_needed (length (frontier (all_of r))) < 2 ^ 64 → length (merges_of r) ≡ merges_needed (length (frontier (all_of r)))
merges_counted r agent sound small = merges_length (length (frontier (log_of r))) r.agent (last_id r.unsent) (log_of r) agent sound.legal (last_in r.confirmed r.unsent sound.legal) (omega (arith, small, same)) (omega arith) ∙ ap merges_needed same_width
  where
    same_width : length (frontier (log_of r)) ≡ length (frontier (all_of r))
    same_width = ap length (frontier_log (all_of r))

    same : merges_needed (length (frontier (log_of r))) ≡ merges_needed (length (frontier (all_of r)))
    same = ap merges_needed same_width

pub additions_good : (r : ReplicaView) (c : Change) → IsAgent r.agent → IsSound r → is_change c ≡ true → IsSome (spliced (text_of (all_of r)) c) → last_number r < 2 ^ 64 → AddsWell r (additions r c)
additions_good r c agent sound shaped fits small = record {
  legal = subst IsLegalLog (sym order) (follows, added.legal);
  chained = subst IsChained (append_assoc r.unsent ms (w ∷ [])) (chained_more (r.unsent ++ ms) w added.chained (λ v e. member_contains (frontier then_log) v (added.newest v e)));
  named = λ u m. elim (member_append_cases u ms (w ∷ []) m) [
    | inl a ↦ added.named u a
    | inr b ↦ last u b
  ];
}
  where
    us : List UpdateView
    us = log_of r

    ms : List UpdateView
    ms = merges_of r

    then_log : List UpdateView
    then_log = reverse ms ++ us

    w : UpdateView
    w = next_in r.agent then_log (frontier then_log) c

    enough : greatest_number r.agent us + length ms + 1 < 2 ^ 64
    enough = let n = merges_counted r agent sound (omega (arith, small)) in omega (arith, n, small)

    added : Added (length (frontier us)) r.agent us r.unsent ms
    added = merges_well r agent sound (omega (arith, enough))

    one : 1 + greatest_number r.agent then_log < 2 ^ 64
    one = let g = added.greatest in omega (arith, g, enough)

    here : IsSome (spliced (text_in (versions_in us) (frontier us)) c)
    here = subst (λ (F : List (List ℕ)). IsSome (spliced (text_in (versions_in us) F) c)) (sym (frontier_log (all_of r))) fits

    follows : Follows then_log w
    follows = next_follows r.agent then_log (frontier then_log) c agent one (λ p m. m) (frontier_rises then_log) (built_from (frontier then_log) c (added.narrow (omega arith)) shaped)
        (subst (λ (S : List (Node Key)). IsSome (spliced (chars_of S) c)) (sym added.text) here)

    order : reverse (r.confirmed ++ (r.unsent ++ additions r c)) ≡ w ∷ then_log
    order = ap reverse (sym (append_assoc r.confirmed r.unsent (ms ++ w ∷ [])) ∙ sym (append_assoc (r.confirmed ++ r.unsent) ms (w ∷ []))) ∙ log_more ((r.confirmed ++ r.unsent) ++ ms) w ∙ ap (λ t. w ∷ t) (reverse-append (r.confirmed ++ r.unsent) ms)

    last : (u : UpdateView) → Member u (w ∷ []) → IsName r.agent u.id
    last u (inl e) = subst (λ (t : UpdateView). IsName r.agent t.id) e (1 + greatest_number r.agent then_log, refl, omega arith, one)
    last u (inr m) = absurd m

-- a write adds what it adds where that leaves all well, or changes nothing
pub write_cases : (limits : Room) (r : ReplicaView) (c : Change) → IsAgent r.agent → IsSound r → (write limits r c ≡ with_unsent r (additions r c) × AddsWell r (additions r c)) ⊎ (write limits r c ≡ r)
write_cases limits r c agent sound = go (is_change c) (is_some (spliced (text_of (all_of r)) c)) (nat_lt (last_number r) (2 ^ 64)) (is_some (first_full (write_needs r c) (room_of limits (all_of r)))) refl refl refl
  where
    new : List UpdateView
    new = additions r c

    go : (a b d e : Bool) → is_change c ≡ a → is_some (spliced (text_of (all_of r)) c) ≡ b → nat_lt (last_number r) (2 ^ 64) ≡ d
        → (cond (a && (b && (d && not e))) (with_unsent r new) r ≡ with_unsent r new × AddsWell r new) ⊎ (cond (a && (b && (d && not e))) (with_unsent r new) r ≡ r)
    go false b d e f g h = inr refl
    go true false d e f g h = inr refl
    go true true false e f g h = inr refl
    go true true true true f g h = inr refl
    go true true true false f g h = inl (refl, additions_good r c agent sound f g (lt_from (last_number r) (2 ^ 64) h))
