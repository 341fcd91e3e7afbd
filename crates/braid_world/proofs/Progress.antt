-- A replica beside a server's history learns all that is sent to it, and all that it sends is taken.
use Rattle.std.proofs.Common.{◌≡◌, ℕ, ◌+◌, List, [], ◌∷◌, ◌++◌, Bool, cond, refl, sym, ap, subst, ◌∙◌, inl, inr, ◌⊎◌, arith, length, length-append, take, reverse, append_assoc, Option, Some, None, IsSome}
use Rattle.std.specs.List.{slice_get}
use Rattle.std.specs.List.{Contains}
use Rattle.std.proofs.lemmas.List.{take_at}
use Rattle.braid_ids.specs.Identifiers.{id_cmp}
use Rattle.braid_change.specs.Updates.{UpdateView}
use Rattle.braid_graph.specs.Entries.{Holds, HoldsAll}
use Rattle.braid_tree.specs.Trees.{Member}
use Rattle.braid_tree.proofs.Keys.{ids_strict, eq_itself}
use Rattle.braid_tree.proofs.Member.{member_append_left, member_append_right}
use Rattle.braid_rebase.proofs.Filtered.{take_member, member_filter}
use Rattle.braid_rebase.proofs.Members.{contains_member, member_contains}
use Rattle.braid_text.specs.Histories.{graph_of, IsLegal, IsLegalLog, Follows}
use Rattle.braid_text.specs.Answers.{refusal_to}
use Rattle.braid_text.specs.Sent.{is_outside, sent}
use Rattle.braid_text.specs.declared.room.Room.{Room}
use Rattle.braid_text.specs.declared.accept.Accept.TheVariants as accepts
use Rattle.braid_text.proofs.Logs.{Has, IsPartOf, has_holds, holds_has, has_part, legal_back, follows_held}
use Rattle.braid_outbox.specs.declared.world.Reading.{Reading}
use Rattle.braid_outbox.specs.declared.world.Side.{Side}
use Rattle.braid_outbox.specs.Replicas.{ReplicaView, all_of, frontier, resume_of, number}
use Rattle.braid_outbox.specs.Learns.{Learnt, Confirmed, Judged, confirm, has_first, learn_answer, learn, acked}
use Rattle.braid_outbox.specs.Worlds.{reading_after}
use Rattle.braid_outbox.specs.Laws.{IsPart, IsLearnt}
use Rattle.braid_outbox.proofs.Names.{IsName, number_is, name_numbered}
use Rattle.braid_outbox.proofs.Fronts.{frontier_cases}
use Rattle.braid_outbox.proofs.Additions.{log_parts, log_more}
use Rattle.braid_outbox.proofs.Moves.{Moves, Learns, to_log, of_log, learn_moves, confirms}
use Rattle.braid_outbox.proofs.Good.{kept_all, IsReadTo, GoodSide, GoodPut, same_as}
use Rattle.braid_outbox.proofs.Sides.{update_in}
use Rattle.braid_outbox.proofs.Caught.{at_end, below_frontier}
use Rattle.braid_outbox.proofs.Landing.{land_judged, carry_one}
use Rattle.braid_world.specs.Progress.{IsFront, IsBeside, IsBrought, IsGood, LearnsAll, LearningBrings, SentIsLearnt, FrontierIsHeld, FrontIsHad, StaysBeside, PutIsTaken, PutIsConfirmed}
use Rattle.braid_world.proofs.Changed.{made_of}

-- parts, as members
to_part : (us ks : List UpdateView) → IsPart us ks → IsPartOf us ks
to_part us ks part x m = contains_member ks x (part x (member_contains us x m))

from_part : (us ks : List UpdateView) → IsPartOf us ks → IsPart us ks
from_part us ks part x c = member_contains ks x (part x (contains_member us x c))

front_part : (K H : List UpdateView) → IsFront K H → IsPartOf K H
front_part K H (rest, e) x m = subst (Member x) (sym e) (member_append_left x K rest m)

-- a front of a legal history is legal
front_legal : (H K : List UpdateView) → IsLegal H → IsFront K H → IsLegalLog (reverse K)
front_legal H K legal (rest, e) = legal_back (reverse rest) (reverse K) (subst IsLegalLog (ap reverse e ∙ log_parts K rest) legal)

-- a name of an agent
name_of : (a v : List ℕ) → IsSome (number a v) → IsName a v
name_of a v s = go (number a v) refl s
  where
    go : (o : Option ℕ) → number a v ≡ o → IsSome o → IsName a v
    go None e s = cc
    go (Some k) e s = let p = number_is a v k e in (k, p.0, p.1, p.2)

-- the side of a replica that was brought on from the kept one
abbrev side_of : ReplicaView → ReplicaView → Option Reading → Side
side_of r q o = record { agent = r.agent; confirmed = q.confirmed; unsent = q.unsent; kept_confirmed = r.confirmed; kept_unsent = r.unsent; reading = o }

-- a replica was brought on from q to s, and these updates are confirmed
record Heard (K : List UpdateView) (r : ReplicaView) (us : List UpdateView) (q s : ReplicaView) : Type 0 where
  pub brought : IsBrought K r s
  pub keeps : IsPartOf q.confirmed s.confirmed
  pub heard : IsPartOf us s.confirmed

module _ (H K : List UpdateView) (r : ReplicaView) (b : IsBeside H K r) where
  legal : IsLegalLog (reverse K)
  legal = front_legal H K b.legal b.front

  good : (q : ReplicaView) → IsBrought K r q → (o : Option Reading) → IsReadTo K q.confirmed o → GoodSide K (side_of r q o)
  good q g o reads = record {
    agent = b.agent;
    sound = record { legal = g.sound.legal; chained = g.sound.chained };
    kept = record { legal = b.sound.legal; chained = b.sound.chained };
    part = to_part q.confirmed K g.part;
    kept_part = to_part r.confirmed q.confirmed g.keeps;
    kept_whole = to_part (all_of r) (all_of q) g.whole;
    own = λ x m. name_of r.agent x.id (b.own x (g.unsent x (member_contains q.unsent x m)));
    kept_own = λ x m. name_of r.agent x.id (b.own x (member_contains r.unsent x m));
    landed = λ x m i. contains_member (all_of r) x (b.landed x (member_contains H x (front_part K H b.front x m)) (name_numbered r.agent x.id i));
    reads = reads;
  }

  none_brought : IsBrought K r r
  none_brought = record { agent = refl; sound = b.sound; part = b.part; keeps = λ u c. c; whole = λ u c. c; unsent = λ u c. c }

  -- a move in which only updates of the front were confirmed
  moved : (q s : ReplicaView) (u : UpdateView) → IsBrought K r q → Member u K → Moves q s u → IsBrought K r s
  moved q s u g there m = record {
    agent = m.agent ∙ g.agent;
    sound = m.sound;
    part = from_part s.confirmed K (λ x n. elim (m.confirmed x n) [ inl a ↦ to_part q.confirmed K g.part x a | inr e ↦ subst (λ (t : UpdateView). Member t K) e there ]);
    keeps = from_part r.confirmed s.confirmed (λ x n. m.keeps x (to_part r.confirmed q.confirmed g.keeps x n));
    whole = from_part (all_of r) (all_of s) (λ x n. m.whole x (to_part (all_of r) (all_of q) g.whole x n));
    unsent = from_part s.unsent r.unsent (λ x n. to_part q.unsent r.unsent g.unsent x (m.unsent x n));
  }

  one_on : (rd : Reading) (a : Learnt) → IsGood a → reading_after rd a ≡ Some (record { from = rd.from; position = rd.position + 1 })
  one_on rd Confirmed h = refl
  one_on rd (Judged accepts.New) h = refl
  one_on rd (Judged accepts.Known) h = refl
  one_on rd (Judged (accepts.Clash v)) h = absurd h
  one_on rd (Judged (accepts.UnknownParent v)) h = absurd h
  one_on rd (Judged (accepts.OutOfRange patch len)) h = absurd h
  one_on rd (Judged (accepts.Full which need room)) h = absurd h
  one_on rd (Judged accepts.Memory) h = absurd h

  hears : (limits : Room) (us : List UpdateView) (q s : ReplicaView) → IsBrought K r q → IsPartOf us K → LearnsAll limits q us s → Heard K r us q s
  hears limits [] q s g part e = subst (Heard K r [] q) (sym e) record { brought = g; keeps = λ x m. m; heard = λ x m. absurd m }
  hears limits (u ∷ us) q s g part (ok, rest) = let more = hears limits us (learn limits q u) s (moved q (learn limits q u) u g there well.moves) (λ x n. part x (inr n)) rest in record {
    brought = more.brought;
    keeps = λ x m. more.keeps x (well.moves.keeps x m);
    heard = λ x m. elim m [
      | inl e ↦ subst (λ (t : UpdateView). Member t s.confirmed) e (more.keeps u (well.carried (record { from = []; position = 0 }) (record { from = []; position = 0 + 1 }) (one_on (record { from = []; position = 0 }) (learn_answer limits q u) ok)).2)
      | inr n ↦ more.heard x n
    ];
  }
    where
      there : Member u K
      there = part u (inl refl)

      well : Learns q u (learn_answer limits q u)
      well = learn_moves limits q u g.sound (update_in (reverse K) legal u (to_log K u there))

  pub sent_part : (F : List (List ℕ)) → IsPartOf (sent K F) K
  sent_part F x m = (member_filter (is_outside K F) x K m).0

  -- the subscription behind the first updates of what is sent
  reads_to : (us vs : List UpdateView) (q : ReplicaView) → sent K (resume_of r) ≡ us ++ vs → Heard K r us r q → IsReadTo K q.confirmed (Some (record { from = resume_of r; position = length us }))
  reads_to us vs q e h = (
    (λ v m. has_part r.confirmed q.confirmed h.keeps v (frontier_cases r.confirmed v (take_member v 32 (frontier r.confirmed) m)).0),
    (let l = ap length e in let n = length-append us vs in omega (arith, l, n)),
    (λ x m. h.heard x (subst (Member x) (ap (take (length us)) e ∙ take_at us vs (length us) refl) m)),
  )

  at_place : (us vs : List UpdateView) (u : UpdateView) → slice_get (us ++ u ∷ vs) (length us) ≡ Some u
  at_place [] vs u = refl
  at_place (x ∷ us) vs u = at_place us vs u

  sent_learnt : (limits : Room) (q : ReplicaView) (us vs : List UpdateView) (u : UpdateView) → sent K (resume_of r) ≡ us ++ u ∷ vs → LearnsAll limits r us q → IsLearnt (learn_answer limits q u)
  sent_learnt limits q us vs u e l = subst (λ (t : ReplicaView). IsLearnt (learn_answer limits t u)) (made_of r.agent q (sym h.brought.agent))
      (carry_one limits K legal (side_of r q (Some rd)) (good q h.brought (Some rd) reads) rd reads u (ap (λ (xs : List UpdateView). slice_get xs (length us)) e ∙ at_place us vs u))
    where
      h : Heard K r us r q
      h = hears limits us r q none_brought (λ x m. sent_part (resume_of r) x (subst (Member x) (sym e) (member_append_left x us (u ∷ vs) m))) l

      rd : Reading
      rd = record { from = resume_of r; position = length us }

      reads : IsReadTo K q.confirmed (Some rd)
      reads = reads_to us (u ∷ vs) q e h

  front_held : (limits : Room) (q : ReplicaView) → LearnsAll limits r (sent K (resume_of r)) q → HoldsAll (graph_of q.confirmed) (frontier K)
  front_held limits q l v c = has_holds q.confirmed v (all (frontier_cases K v (contains_member (frontier K) v c)).0)
    where
      h : Heard K r (sent K (resume_of r)) r q
      h = hears limits (sent K (resume_of r)) r q none_brought (sent_part (resume_of r)) l

      rd : Reading
      rd = record { from = resume_of r; position = length (sent K (resume_of r)) }

      none_left : (sent K (resume_of r)) ≡ (sent K (resume_of r)) ++ []
      none_left = sym (append_none (sent K (resume_of r)))
        where
          append_none : (xs : List UpdateView) → xs ++ [] ≡ xs
          append_none [] = refl
          append_none (x ∷ xs) = ap (λ t. x ∷ t) (append_none xs)

      reads : IsReadTo K q.confirmed (Some rd)
      reads = reads_to (sent K (resume_of r)) [] q none_left h

      all : Has K v → Has q.confirmed v
      all (u, m, e) = (u, at_end K legal (side_of r q (Some rd)) (good q h.brought (Some rd) reads) (Some rd) reads (omega arith) u m, e)

  -- where the frontier of a shorter front is held, each update of that is confirmed
  front_had : (M : List UpdateView) (q : ReplicaView) → IsFront M K → IsBrought K r q → HoldsAll (graph_of q.confirmed) (frontier M) → IsPart M q.confirmed
  front_had M q f g all = subst (λ (xs : List UpdateView). IsPart xs q.confirmed) whole
      (below_frontier K legal (side_of r q None) (good q g None tt) (length M) (λ v m. holds_has q.confirmed v (all v (subst (λ (xs : List UpdateView). Contains (frontier xs) v) whole (member_contains (frontier (take (length M) K)) v m)))))
    where
      whole : take (length M) K ≡ M
      whole = ap (take (length M)) f.1 ∙ take_at M f.0 (length M) refl

  -- the first unsent update
  module _ (q : ReplicaView) (g : IsBrought K r q) (u : UpdateView) (us : List UpdateView) (e : q.unsent ≡ u ∷ us) where
    abbrev s : Side
    s = side_of r q None

    gs : GoodSide K s
    gs = good q g None tt

    here : Member u q.unsent
    here = subst (Member u) (sym e) (inl refl)

    kept : Member u (all_of r)
    kept = member_append_right u r.confirmed r.unsent (to_part q.unsent r.unsent g.unsent u here)

    below : Follows (reverse q.confirmed) u
    below = (legal_back (reverse us) (u ∷ reverse q.confirmed) (subst IsLegalLog split g.sound.legal)).0
      where
        split : reverse (q.confirmed ++ q.unsent) ≡ reverse us ++ u ∷ reverse q.confirmed
        split = ap (λ t. reverse (q.confirmed ++ t)) e ∙ ap reverse (sym (append_assoc q.confirmed (u ∷ []) us)) ∙ log_parts (q.confirmed ++ u ∷ []) us ∙ ap (λ t. reverse us ++ t) (log_more q.confirmed u)

    put : GoodPut K (s ∷ []) u
    put = record {
      made = (s, inl refl, kept, gs.own u here);
      owned = λ t m i. elim m [ inl f ↦ subst (λ (x : Side). Member u (kept_all x)) f kept | inr n ↦ absurd n ];
      parents = λ p m. let h = follows_held (reverse q.confirmed) u below p m in (h.0, to_part q.confirmed K g.part h.0 (of_log q.confirmed h.0 h.1), h.2);
    }

    taken : (refusal_to K u ≡ Some accepts.Known) ⊎ (refusal_to K u ≡ None)
    taken = land_judged K legal (s ∷ []) (λ t m. elim m [ inl f ↦ subst (GoodSide K) f gs | inr n ↦ absurd n ]) u put

    confirmed : Holds (graph_of K) u.id → (acked u.id q ≡ record { agent = q.agent; confirmed = q.confirmed ++ u ∷ []; unsent = us }) × IsBrought K r (acked u.id q)
    confirmed held = (is, subst (IsBrought K r) (sym is) (moved q (record { agent = q.agent; confirmed = q.confirmed ++ u ∷ []; unsent = us }) u g there (confirms q u us e g.sound)))
      where
        is : acked u.id q ≡ record { agent = q.agent; confirmed = q.confirmed ++ u ∷ []; unsent = us }
        is = ap (λ (os : List UpdateView). cond (has_first u.id os) (confirm q os) q) e ∙ ap (λ (t : Bool). cond t (confirm q (u ∷ us)) q) (eq_itself id_cmp ids_strict u.id)

        there : Member u K
        there = by (holds_has K u.id held)
          where
            by : Has K u.id → Member u K
            by (x, m, f) = subst (λ (t : UpdateView). Member t K) (sym (same_as K legal s gs u x (member_append_right u q.confirmed q.unsent here) m (sym f))) m

pub learning_brings : LearningBrings
learning_brings limits H K r q us b part l = (hears H K r b limits us r q (none_brought H K r b) (to_part us K part) l).brought

pub sent_is_learnt : SentIsLearnt
sent_is_learnt limits H K r q us vs u b e l = sent_learnt H K r b limits q us vs u e l

pub frontier_is_held : FrontierIsHeld
frontier_is_held limits H K r q b l = front_held H K r b limits q l

pub front_is_had : FrontIsHad
front_is_had H K L r q b f g all = front_had H L r b K q f g all

pub stays_beside : StaysBeside
stays_beside = record {
  beside = λ H K L r b k l. record {
    agent = b.agent;
    legal = b.legal;
    front = l;
    sound = b.sound;
    part = λ u c. from_part K L (front_part K L k) u (b.part u c);
    own = b.own;
    landed = b.landed;
  };
  brought = λ K L r q g k. record {
    agent = g.agent;
    sound = g.sound;
    part = λ u c. from_part K L (front_part K L k) u (g.part u c);
    keeps = g.keeps;
    whole = g.whole;
    unsent = g.unsent;
  };
}

pub put_is_taken : PutIsTaken
put_is_taken H K r q u us b g e = taken H K r b q g u us e

pub put_is_confirmed : PutIsConfirmed
put_is_confirmed H K r q u us b g e held = confirmed H K r b q g u us e held
