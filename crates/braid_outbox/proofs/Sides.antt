-- Each event at a side keeps the invariant.
use Rattle.std.proofs.Common.{◌≡◌, ℕ, List, [], ◌∷◌, ◌++◌, refl, sym, ap, subst, ◌∙◌, inl, inr, ◌⊎◌, arith, map, take, length, reverse, Option, Some, None, suc, zero}
use Rattle.std.specs.List.{slice_get}
use Rattle.std.proofs.lemmas.Option.{slice_get_within}
use Rattle.braid_change.specs.declared.change.Change.{Change}
use Rattle.braid_change.specs.Updates.{UpdateView}
use Rattle.braid_tree.specs.Trees.{Member}
use Rattle.braid_tree.proofs.Member.{member_append_left, member_append_right, member_append_cases}
use Rattle.braid_rebase.proofs.Filtered.{take_member, member_filter}
use Rattle.braid_text.specs.Histories.{IsLegalLog}
use Rattle.braid_text.specs.Sent.{is_outside, sent}
use Rattle.braid_text.specs.declared.room.Room.{Room}
use Rattle.braid_text.proofs.Logs.{Has}
use Rattle.braid_outbox.specs.declared.world.Reading.{Reading}
use Rattle.braid_outbox.specs.declared.world.Side.{Side}
use Rattle.braid_outbox.specs.declared.world.World.{World}
use Rattle.braid_outbox.specs.Replicas.{ReplicaView, frontier}
use Rattle.braid_outbox.specs.Writes.{additions, with_unsent}
use Rattle.braid_outbox.specs.Learns.{learn_answer, learnt, acked, Learnt}
use Rattle.braid_outbox.specs.Worlds.{replica_of, with_side, at_side, with_replica, writes, opens, cuts, keeps, goes_back, reading_after, learns, carries_from, carries, acks}
use Rattle.braid_outbox.specs.Laws.{AreDifferent}
use Rattle.braid_outbox.proofs.Shapes.{IsProper}
use Rattle.braid_outbox.proofs.Names.{IsName}
use Rattle.braid_outbox.proofs.Fronts.{frontier_cases}
use Rattle.braid_outbox.proofs.Additions.{AddsWell, write_cases}
use Rattle.braid_outbox.proofs.Moves.{Moves, Learns, learn_moves, acked_cases, to_log}
use Rattle.braid_outbox.proofs.Good.{kept_all, IsReadTo, GoodSide, GoodPut, GoodWorld, agent_of, same_as}

-- what an event at a side leaves of it
pub record Grows (s t : Side) : Type 0 where
  pub agent : t.agent ≡ s.agent
  pub kept : (x : UpdateView) → Member x (kept_all s) → Member x (kept_all t)

pub side_cases : (k : ℕ) (f : Side → Side) (ss : List Side) (t : Side) → Member t (with_side k f ss) → Member t ss ⊎ ((s : Side) × Member s ss × (f s ≡ t))
side_cases k f [] t m = absurd m
side_cases zero f (s ∷ ss) t (inl e) = inr (s, inl refl, e)
side_cases zero f (s ∷ ss) t (inr m) = inl (inr m)
side_cases (suc k) f (s ∷ ss) t (inl e) = inl (inl e)
side_cases (suc k) f (s ∷ ss) t (inr m) = elim (side_cases k f ss t m) [ inl a ↦ inl (inr a) | inr b ↦ inr (b.0, inr b.1, b.2) ]

pub side_has : (k : ℕ) (f : Side → Side) (ss : List Side) (s : Side) → Member s ss → Member s (with_side k f ss) ⊎ Member (f s) (with_side k f ss)
side_has k f [] s m = absurd m
side_has zero f (x ∷ ss) s (inl e) = inr (inl (ap f e))
side_has zero f (x ∷ ss) s (inr m) = inl (inr m)
side_has (suc k) f (x ∷ ss) s (inl e) = inl (inl e)
side_has (suc k) f (x ∷ ss) s (inr m) = elim (side_has k f ss s m) [ inl a ↦ inl (inr a) | inr b ↦ inr (inr b) ]

agents_stay : (k : ℕ) (f : Side → Side) (ss : List Side) → ((s : Side) → Member s ss → (f s).agent ≡ s.agent) → map agent_of (with_side k f ss) ≡ map agent_of ss
agents_stay k f [] h = refl
agents_stay zero f (s ∷ ss) h = ap (λ (a : List ℕ). a ∷ map agent_of ss) (h s (inl refl))
agents_stay (suc k) f (s ∷ ss) h = ap (λ t. s.agent ∷ t) (agents_stay k f ss (λ x m. h x (inr m)))

-- an event at one side
pub at_side_good : (k : ℕ) (f : Side → Side) (w : World) → GoodWorld w → ((s : Side) → Member s w.sides → GoodSide w.history (f s) × Grows s (f s)) → GoodWorld (at_side k f w)
at_side_good k f w good h = record {
  legal = good.legal;
  different = subst AreDifferent (sym (agents_stay k f w.sides (λ s m. (h s m).1.agent))) good.different;
  sides = λ t m. elim (side_cases k f w.sides t m) [
    | inl a ↦ good.sides t a
    | inr (s, n, e) ↦ subst (GoodSide w.history) e (h s n).0
  ];
  puts = λ p m. put p.update (good.puts p m);
  replies = good.replies;
}
  where
    put : (u : UpdateView) → GoodPut w.history w.sides u → GoodPut w.history (with_side k f w.sides) u
    put u g = record { made = made g.made; owned = owned; parents = g.parents }
      where
        made : (s : Side) × Member s w.sides × Member u (kept_all s) × IsName s.agent u.id → (s : Side) × Member s (with_side k f w.sides) × Member u (kept_all s) × IsName s.agent u.id
        made (s, m, n, i) = elim (side_has k f w.sides s m) [
          | inl a ↦ (s, a, n, i)
          | inr b ↦ (f s, b, (h s m).1.kept u n, subst (λ (a : List ℕ). IsName a u.id) (sym (h s m).1.agent) i)
        ]

        owned : (t : Side) → Member t (with_side k f w.sides) → IsName t.agent u.id → Member u (kept_all t)
        owned t m i = elim (side_cases k f w.sides t m) [
          | inl a ↦ g.owned t a i
          | inr (s, n, e) ↦ subst (λ (x : Side). Member u (kept_all x)) e ((h s n).1.kept u (g.owned s n (subst (λ (a : List ℕ). IsName a u.id) (ap agent_of (sym e) ∙ (h s n).1.agent) i)))
        ]

-- what is confirmed stays read
pub read_more : (H C D : List UpdateView) (o : Option Reading) → ((x : UpdateView) → Member x C → Member x D) → IsReadTo H C o → IsReadTo H D o
read_more H C D None sub r = tt
read_more H C D (Some rd) sub r = ((λ v m. let h = r.0 v m in (h.0, sub h.0 h.1, h.2)), r.1, (λ x m. sub x (r.2 x m)))

-- a replica's move in which only updates of the history were confirmed
pub moved_side : (H : List UpdateView) (s : Side) (q : ReplicaView) (u : UpdateView) (o : Option Reading) → GoodSide H s → Moves (replica_of s) q u → Member u H → IsReadTo H q.confirmed o → GoodSide H (with_replica s o q) × Grows s (with_replica s o q)
moved_side H s q u o good moves there reads = (
  record {
    agent = good.agent;
    sound = record { legal = moves.sound.legal; chained = moves.sound.chained };
    kept = good.kept;
    part = λ x m. elim (moves.confirmed x m) [ inl a ↦ good.part x a | inr e ↦ subst (λ (t : UpdateView). Member t H) e there ];
    kept_part = λ x m. moves.keeps x (good.kept_part x m);
    kept_whole = λ x m. moves.whole x (good.kept_whole x m);
    own = λ x m. good.own x (moves.unsent x m);
    kept_own = good.kept_own;
    landed = good.landed;
    reads = reads;
  },
  record { agent = refl; kept = λ x m. m },
)

pub same_side : (H : List UpdateView) (s : Side) → GoodSide H s → GoodSide H s × Grows s s
same_side H s good = (good, record { agent = refl; kept = λ x m. m })

pub write_side : (limits : Room) (c : Change) (H : List UpdateView) (s : Side) → GoodSide H s → GoodSide H (writes limits c s) × Grows s (writes limits c s)
write_side limits c H s good = elim (write_cases limits (replica_of s) c good.agent good.sound) [
  | inl (e, well) ↦ subst (λ (q : ReplicaView). GoodSide H (with_replica s s.reading q) × Grows s (with_replica s s.reading q)) (sym e) (more well)
  | inr e ↦ subst (λ (q : ReplicaView). GoodSide H (with_replica s s.reading q) × Grows s (with_replica s s.reading q)) (sym e) (same_side H s good)
]
  where
    new : List UpdateView
    new = additions (replica_of s) c

    more : AddsWell (replica_of s) new → GoodSide H (with_replica s s.reading (with_unsent (replica_of s) new)) × Grows s (with_replica s s.reading (with_unsent (replica_of s) new))
    more well = (
      record {
        agent = good.agent;
        sound = record { legal = well.legal; chained = well.chained };
        kept = good.kept;
        part = good.part;
        kept_part = good.kept_part;
        kept_whole = λ x m. elim (member_append_cases x s.confirmed s.unsent (good.kept_whole x m)) [
          | inl a ↦ member_append_left x s.confirmed (s.unsent ++ new) a
          | inr b ↦ member_append_right x s.confirmed (s.unsent ++ new) (member_append_left x s.unsent new b)
        ];
        own = λ x m. elim (member_append_cases x s.unsent new m) [ inl a ↦ good.own x a | inr b ↦ well.named x b ];
        kept_own = good.kept_own;
        landed = good.landed;
        reads = good.reads;
      },
      record { agent = refl; kept = λ x m. m },
    )

pub open_side : (H : List UpdateView) (s : Side) → GoodSide H s → GoodSide H (opens s) × Grows s (opens s)
open_side H s good = (
  record {
    agent = good.agent;
    sound = good.sound;
    kept = good.kept;
    part = good.part;
    kept_part = good.kept_part;
    kept_whole = good.kept_whole;
    own = good.own;
    kept_own = good.kept_own;
    landed = good.landed;
    reads = ((λ v m. (frontier_cases s.confirmed v (take_member v 32 (frontier s.confirmed) m)).0), omega arith, (λ x m. absurd m));
  },
  record { agent = refl; kept = λ x m. m },
)

pub cut_side : (H : List UpdateView) (s : Side) → GoodSide H s → GoodSide H (cuts s) × Grows s (cuts s)
cut_side H s good = (
  record {
    agent = good.agent;
    sound = good.sound;
    kept = good.kept;
    part = good.part;
    kept_part = good.kept_part;
    kept_whole = good.kept_whole;
    own = good.own;
    kept_own = good.kept_own;
    landed = good.landed;
    reads = tt;
  },
  record { agent = refl; kept = λ x m. m },
)

pub keep_side : (H : List UpdateView) (s : Side) → GoodSide H s → GoodSide H (keeps s) × Grows s (keeps s)
keep_side H s good = (
  record {
    agent = good.agent;
    sound = good.sound;
    kept = good.sound;
    part = good.part;
    kept_part = λ x m. m;
    kept_whole = λ x m. m;
    own = good.own;
    kept_own = good.own;
    landed = λ x m i. good.kept_whole x (good.landed x m i);
    reads = good.reads;
  },
  record { agent = refl; kept = good.kept_whole },
)

pub back_side : (H : List UpdateView) (s : Side) → GoodSide H s → GoodSide H (goes_back s) × Grows s (goes_back s)
back_side H s good = (
  record {
    agent = good.agent;
    sound = good.kept;
    kept = good.kept;
    part = λ x m. good.part x (good.kept_part x m);
    kept_part = λ x m. m;
    kept_whole = λ x m. m;
    own = good.kept_own;
    kept_own = good.kept_own;
    landed = good.landed;
    reads = tt;
  },
  record { agent = refl; kept = λ x m. m },
)

-- an update of a legal log is one as the program has them
pub update_in : (us : List UpdateView) → IsLegalLog us → (u : UpdateView) → Member u us → IsProper u
update_in (w ∷ us) legal u (inl e) = subst IsProper e (record { named = legal.0.named; rising = legal.0.rising; built = legal.0.built })
update_in (w ∷ us) legal u (inr m) = update_in us legal.1 u m
update_in [] legal u m = absurd m

pub get_member : {A : Type 0} (xs : List A) (k : ℕ) (x : A) → slice_get xs k ≡ Some x → Member x xs
get_member [] k x h = cc
get_member (y ∷ xs) zero x h = inl cc
get_member (y ∷ xs) (suc k) x h = inr (get_member xs k x h)

-- one more item of a list is the next one
pub take_more : {A : Type 0} (xs : List A) (k : ℕ) (u x : A) → slice_get xs k ≡ Some u → Member x (take (suc k) xs) → Member x (take k xs) ⊎ (u ≡ x)
take_more [] k u x h m = cc
take_more (y ∷ xs) zero u x h (inl e) = inr (let f : y ≡ u = cc in sym f ∙ e)
take_more (y ∷ xs) zero u x h (inr m) = absurd m
take_more (y ∷ xs) (suc k) u x h (inl e) = inl (inl e)
take_more (y ∷ xs) (suc k) u x h (inr m) = elim (take_more xs k u x h m) [ inl a ↦ inl (inr a) | inr e ↦ inr e ]

pub carry_side : (limits : Room) (H : List UpdateView) → IsLegalLog (reverse H) → (s : Side) → GoodSide H s → GoodSide H (carries limits H s) × Grows s (carries limits H s)
carry_side limits H legal s good = at_reading s.reading good.reads
  where
    at_update : (rd : Reading) → IsReadTo H s.confirmed (Some rd) → (o : Option UpdateView) → slice_get (sent H rd.from) rd.position ≡ o → GoodSide H (learns limits s rd o) × Grows s (learns limits s rd o)
    at_update rd reads None e = same_side H s good
    at_update rd reads (Some u) e = moved_side H s (learnt (replica_of s) u a) u (reading_after rd a) good well.moves there (next (reading_after rd a) refl)
      where
        a : Learnt
        a = learn_answer limits (replica_of s) u

        there : Member u H
        there = (member_filter (is_outside H rd.from) u H (get_member (sent H rd.from) rd.position u e)).0

        well : Learns (replica_of s) u a
        well = learn_moves limits (replica_of s) u good.sound (update_in (reverse H) legal u (to_log H u there))

        C : List UpdateView
        C = (learnt (replica_of s) u a).confirmed

        next : (o : Option Reading) → reading_after rd a ≡ o → IsReadTo H C o
        next None f = tt
        next (Some n) f = let c = well.carried rd n f in (
          (λ v m. let h = reads.0 v (subst (Member v) c.0 m) in (h.0, well.moves.keeps h.0 h.1, h.2)),
          (let l = slice_get_within (sent H rd.from) rd.position u e in let k = ap (λ (F : List (List ℕ)). length (sent H F)) c.0 in omega (arith, l, k, c.1)),
          (λ x m. elim (take_more (sent H rd.from) rd.position u x e (subst (λ (k : ℕ). Member x (take k (sent H rd.from))) (let k : n.position ≡ suc rd.position = omega (arith, c.1) in k) (subst (λ (F : List (List ℕ)). Member x (take n.position (sent H F))) c.0 m))) [
            | inl b ↦ well.moves.keeps x (reads.2 x b)
            | inr g ↦ subst (λ (t : UpdateView). Member t C) g c.2
          ]),
        )

    at_reading : (o : Option Reading) → IsReadTo H s.confirmed o → GoodSide H (carries_from limits H s o) × Grows s (carries_from limits H s o)
    at_reading None reads = same_side H s good
    at_reading (Some rd) reads = at_update rd reads (slice_get (sent H rd.from) rd.position) refl

pub ack_side : (H : List UpdateView) → IsLegalLog (reverse H) → (v : List ℕ) → Has H v → (s : Side) → GoodSide H s → GoodSide H (acks v s) × Grows s (acks v s)
ack_side H legal v (x, m, e) s good = elim (acked_cases v (replica_of s) good.sound) [
  | inl (u, n, f, moves) ↦ moved_side H s (acked v (replica_of s)) u s.reading good moves (there u n f) (read_more H s.confirmed (acked v (replica_of s)).confirmed s.reading moves.keeps good.reads)
  | inr f ↦ subst (λ (q : ReplicaView). GoodSide H (with_replica s s.reading q) × Grows s (with_replica s s.reading q)) (sym f) (same_side H s good)
]
  where
    there : (u : UpdateView) → Member u s.unsent → u.id ≡ v → Member u H
    there u n f = subst (λ (t : UpdateView). Member t H) (sym (same_as H legal s good u x (member_append_right u s.confirmed s.unsent n) m (f ∙ sym e))) m
