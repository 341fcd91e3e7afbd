-- The laws over lists of events, and of every sound replica.
use Rattle.std.proofs.Common.{◌≡◌, ℕ, List, [], ◌∷◌, ◌++◌, Bool, true, length-append, inl, inr, reverse, subst, sym, take, length, arith}
use Rattle.std.specs.List.{Contains}
use Rattle.std.proofs.lemmas.List.{take_all}
use Rattle.braid_ids.specs.Agents.{IsAgent}
use Rattle.braid_change.specs.declared.change.Change.{Change}
use Rattle.braid_change.specs.Updates.{UpdateView, IsUpdate}
use Rattle.braid_graph.specs.Entries.{HoldsAll}
use Rattle.braid_tree.specs.Trees.{Member}
use Rattle.braid_tree.proofs.Member.{member_append_left, member_append_right, member_append_cases}
use Rattle.braid_rebase.proofs.Members.{contains_member, member_contains}
use Rattle.braid_text.specs.Histories.{graph_of, IsLegalLog, SameGraph}
use Rattle.braid_text.specs.declared.room.Room.{Room}
use Rattle.braid_text.proofs.Logs.{parents_held, legal_back, has_holds, holds_has, Has}
use Rattle.braid_outbox.specs.declared.world.World.{World}
use Rattle.braid_outbox.specs.declared.world.Side.{Side}
use Rattle.braid_outbox.specs.declared.world.Posted.{Posted}
use Rattle.braid_outbox.specs.declared.world.Event.{Event}
use Rattle.braid_outbox.specs.Replicas.{ReplicaView, IsChained, IsSound, frontier}
use Rattle.braid_outbox.specs.Replicas.{log_of}
use Rattle.braid_outbox.specs.Writes.{additions, is_written, merges_of, next_in, updates_needed, with_unsent, write}
use Rattle.braid_outbox.proofs.Written.{numbers_fit}
use Rattle.braid_outbox.specs.Learns.{acked, learn}
use Rattle.braid_outbox.specs.Worlds.{replica_of, kept_of, land_answer}
use Rattle.braid_outbox.specs.Laws.{AreAgents, reached, IsPart, Keeps, IsAtEnd, IsTaken, CarriesWell, LosesNone}
use Rattle.braid_outbox.proofs.Additions.{log_parts, merges_counted, write_cases}
use Rattle.braid_outbox.proofs.Moves.{Moves, learn_moves, acked_cases, to_log, of_log}
use Rattle.braid_outbox.proofs.Good.{GoodSide, GoodWorld}
use Rattle.braid_outbox.proofs.Steps.{run_good, start_good}
use Rattle.braid_outbox.proofs.Caught.{at_end, below_frontier}
use Rattle.braid_outbox.proofs.Landing.{land_taken, carry_taken}

closed_log : (C : List UpdateView) → IsLegalLog (reverse C) → (u : UpdateView) → Contains C u → HoldsAll (graph_of C) u.parents
closed_log C legal u c p d = let h = parents_held (reverse C) legal u (to_log C u (contains_member C u c)) p (contains_member u.parents p d) in has_holds C p (h.0, of_log C h.0 h.1, h.2)

keeps_of : (H : List UpdateView) (r : ReplicaView) → IsLegalLog (reverse (r.confirmed ++ r.unsent)) → IsChained r.unsent → ((x : UpdateView) → Member x r.confirmed → Member x H) → Keeps H r
keeps_of H r legal chained part = record {
  sound = record { legal = legal; chained = chained };
  closed = closed_log r.confirmed (legal_back (reverse r.unsent) (reverse r.confirmed) (subst IsLegalLog (log_parts r.confirmed r.unsent) legal));
  part = λ x c. member_contains H x (part x (contains_member r.confirmed x c));
}

module _ (limits : Room) (agents : List (List ℕ)) (are : AreAgents agents) (events : List Event) where
  abbrev w : World
  w = reached limits agents events

  good : GoodWorld w
  good = run_good limits events _ (start_good agents (λ a m. are.each a (member_contains agents a m)) are.different)

  side : (s : Side) → Contains w.sides s → GoodSide w.history s
  side s c = good.sides s (contains_member w.sides s c)

  pub sound_replica : (s : Side) → Contains w.sides s → Keeps w.history (replica_of s)
  sound_replica s c = let g = side s c in keeps_of w.history (replica_of s) g.sound.legal g.sound.chained g.part

  pub sound_kept : (s : Side) → Contains w.sides s → Keeps w.history (kept_of s)
  sound_kept s c = let g = side s c in keeps_of w.history (kept_of s) g.kept.legal g.kept.chained (λ x m. g.part x (g.kept_part x m))

  held_by : (s : Side) (F : List (List ℕ)) → HoldsAll (graph_of s.confirmed) F → (v : List ℕ) → Member v F → Has s.confirmed v
  held_by s F all v m = holds_has s.confirmed v (all v (member_contains F v m))

  pub end_law : (s : Side) → Contains w.sides s → IsAtEnd w.history s.reading → SameGraph s.confirmed w.history
  end_law s c h = let g = side s c in λ u. (
    (λ d. member_contains w.history u (g.part u (contains_member s.confirmed u d))),
    (λ d. member_contains s.confirmed u (at_end w.history good.legal s g s.reading g.reads h u (contains_member w.history u d))),
  )

  pub front_law : (s : Side) → Contains w.sides s → (n : ℕ) → HoldsAll (graph_of s.confirmed) (frontier (take n w.history)) → IsPart (take n w.history) s.confirmed
  front_law s c n all = below_frontier w.history good.legal s (side s c) n (held_by s (frontier (take n w.history)) all)

  pub whole_law : (s : Side) → Contains w.sides s → HoldsAll (graph_of s.confirmed) (frontier w.history) → SameGraph s.confirmed w.history
  whole_law s c all = let g = side s c in λ u. (
    (λ d. member_contains w.history u (g.part u (contains_member s.confirmed u d))),
    (λ d. front_law s c (length w.history) (subst (λ (K : List UpdateView). HoldsAll (graph_of s.confirmed) (frontier K)) (sym whole) all) u (subst (λ (K : List UpdateView). Contains K u) (sym whole) d)),
  )
    where
      whole : take (length w.history) w.history ≡ w.history
      whole = take_all (length w.history) w.history (omega arith)

  pub puts_law : (p : Posted) → Contains w.puts p → (full : Bool) → IsTaken (land_answer full w.history p.update)
  puts_law p c full = land_taken w.history good.legal w.sides good.sides p.update (good.puts p (contains_member w.puts p c)) full

  pub carried_law : (s : Side) → Contains w.sides s → CarriesWell limits w.history s s.reading
  carried_law s c = let g = side s c in carry_taken limits w.history good.legal s g s.reading g.reads

loses_none : (r q : ReplicaView) (u : UpdateView) → Moves r q u → LosesNone r q
loses_none r q u m x c = member_contains (q.confirmed ++ q.unsent) x (m.whole x (contains_member (r.confirmed ++ r.unsent) x c))

same_sound : (r q : ReplicaView) → q ≡ r → IsSound r → IsSound q × LosesNone r q
same_sound r q e sound = subst (λ (t : ReplicaView). IsSound t × LosesNone r t) (sym e) (sound, λ u c. c)

pub learn_law : (limits : Room) (r : ReplicaView) → IsSound r → (u : UpdateView) → IsUpdate u → IsSound (learn limits r u) × LosesNone r (learn limits r u)
learn_law limits r sound u is = let m = (learn_moves limits r u sound (record { named = is.identifier; rising = is.rising; built = is.built })).moves in (m.sound, loses_none r (learn limits r u) u m)

pub acked_law : (r : ReplicaView) → IsSound r → (v : List ℕ) → IsSound (acked v r) × LosesNone r (acked v r)
acked_law r sound v = elim (acked_cases v r sound) [
  | inl (u, n, e, m) ↦ (m.sound, loses_none r (acked v r) u m)
  | inr e ↦ same_sound r (acked v r) e sound
]

pub write_law : (limits : Room) (r : ReplicaView) → IsAgent r.agent → IsSound r → (c : Change) → IsSound (write limits r c) × LosesNone r (write limits r c)
write_law limits r agent sound c = elim (write_cases limits r c agent sound) [
  | inl (e, w) ↦ subst (λ (q : ReplicaView). IsSound q × LosesNone r q) (sym e) (record { legal = w.legal; chained = w.chained }, more (additions r c))
  | inr e ↦ same_sound r (write limits r c) e sound
]
  where
    more : (new : List UpdateView) → LosesNone r (with_unsent r new)
    more new u k = member_contains (r.confirmed ++ (r.unsent ++ new)) u (elim (member_append_cases u r.confirmed r.unsent (contains_member (r.confirmed ++ r.unsent) u k)) [
      | inl a ↦ member_append_left u r.confirmed (r.unsent ++ new) a
      | inr b ↦ member_append_right u r.confirmed (r.unsent ++ new) (member_append_left u r.unsent new b)
    ])

-- a write adds as many updates as are counted before
pub counted_law : (limits : Room) (r : ReplicaView) → IsAgent r.agent → IsSound r → (c : Change) → is_written limits r c ≡ true → length (additions r c) ≡ updates_needed r
counted_law limits r agent sound c due = let small = numbers_fit limits r c due in let us = reverse (merges_of r) ++ log_of r in
    omega (arith, length-append (merges_of r) (next_in r.agent us (frontier us) c ∷ []), merges_counted r agent sound (omega (arith, small)))
