-- One replica of a list changed as an event changes its side.
use Rattle.std.proofs.Common.{◌≡◌, ◌≤◌, ◌<◌, ℕ, List, [], ◌∷◌, zero, suc, refl, sym, ap, subst, ◌∙◌, Bool, true, false, cond, ◌==◌, Option, Some, None, option_map, length, get_or, arith}
use Rattle.std.proofs.Math.ListN.{set}
use Rattle.std.proofs.lemmas.List.{set-get_or}
use Rattle.std.specs.List.{slice_get}
use Rattle.std.specs.Option.{option_and_then}
use Rattle.braid_change.specs.declared.change.Change.{Change}
use Rattle.braid_change.specs.Updates.{UpdateView}
use Rattle.braid_text.specs.Sent.{sent}
use Rattle.braid_text.specs.declared.room.Room.{Room}
use Rattle.braid_text.specs.declared.accept.Accept.TheVariants as accepts
use Rattle.braid_outbox.specs.declared.world.World.{World}
use Rattle.braid_outbox.specs.declared.world.Side.{Side}
use Rattle.braid_outbox.specs.declared.world.Reading.{Reading}
use Rattle.braid_outbox.specs.declared.world.Answered.{Answered}
use Rattle.braid_text.specs.Rooms.{replica_limits}
use Rattle.braid_outbox.specs.Replicas.{ReplicaView, resume_of}
use Rattle.braid_outbox.specs.Writes.{AddsMerges, additions, is_written, with_unsent, write}
use Rattle.braid_outbox.specs.Learns.{Learnt, Confirmed, Judged, confirm, has_first, acked, learn_answer, learnt, learn}
use Rattle.braid_outbox.specs.Worlds.{replica_of, kept_of, with_side, at_side, with_replica, writes, opens, cuts, keeps, goes_back, reading_after, learns, carries_from, carries, acks, replied}
use Rattle.braid_world.specs.Events.{replicas_of, changed, MergesAt, first_unsent, opened_from}
use Rattle.braid_world.specs.ReplicaCalls.{learnt_at, read_at, carried, returned, acknowledged}

-- the same where the replica was read at its place, and where the place is past the end
pub changed_read : (k : ℕ) (f : ReplicaView → ReplicaView) (rs : List ReplicaView) (r : ReplicaView) → k < length rs → r ≡ get_or rs k r → changed k f rs ≡ set rs k (f r)
changed_read k f [] r h e = absurd (omega (arith, h))
changed_read zero f (x ∷ rs) r h e = ap (λ (t : ReplicaView). f t ∷ rs) (sym e)
changed_read (suc k) f (x ∷ rs) r h e = ap (λ t. x ∷ t) (changed_read k f rs r (omega (arith, h)) e)

pub changed_far : (k : ℕ) (f : ReplicaView → ReplicaView) (rs : List ReplicaView) → length rs ≤ k → changed k f rs ≡ rs
changed_far k f [] h = refl
changed_far zero f (x ∷ rs) h = absurd (omega (arith, h))
changed_far (suc k) f (x ∷ rs) h = ap (λ t. x ∷ t) (changed_far k f rs (omega (arith, h)))

-- what was read at a place stands there
pub stands_there : (rs : List ReplicaView) (k : ℕ) (r : ReplicaView) → k < length rs → r ≡ get_or rs k r → slice_get rs k ≡ Some r
stands_there [] k r h e = absurd (omega (arith, h))
stands_there (x ∷ rs) zero r h e = ap Some (sym e)
stands_there (x ∷ rs) (suc k) r h e = stands_there rs k r (omega (arith, h)) e

-- a replica that was read, changed and written back
pub set_read : (k : ℕ) (f : ReplicaView → ReplicaView) (rs : List ReplicaView) (x y : ReplicaView) → k < length rs → x ≡ get_or rs k x → y ≡ f (get_or rs k x) → set rs k y ≡ changed k f rs
set_read k f rs x y l is e = ap (λ (r : ReplicaView). set rs k r) (e ∙ ap f (sym is)) ∙ sym (changed_read k f rs x l is)

-- or written back as it was
pub set_same : (k : ℕ) (rs : List ReplicaView) (x y : ReplicaView) → y ≡ get_or rs k x → set rs k y ≡ rs
set_same k rs x y e = ap (λ (r : ReplicaView). set rs k r) e ∙ set-get_or rs k x

-- or with pure merges
pub set_merges : (k : ℕ) (c : Change) (rs : List ReplicaView) (x y : ReplicaView) → k < length rs → x ≡ get_or rs k x → AddsMerges replica_limits (get_or rs k x) c y → MergesAt k c rs (set rs k y)
set_merges k c rs x y l is h = record { found = x; left = y; there = stands_there rs k x l is; merged = subst (λ (r : ReplicaView). AddsMerges replica_limits r c y) (sym is) h; set = refl }

-- the replicas of sides, one of which is changed
pub changed_sides : (k : ℕ) (f : Side → Side) (g : ReplicaView → ReplicaView) (ss : List Side) → ((s : Side) → slice_get ss k ≡ Some s → replica_of (f s) ≡ g (replica_of s)) → changed k g (replicas_of ss) ≡ replicas_of (with_side k f ss)
changed_sides k f g [] h = refl
changed_sides zero f g (s ∷ ss) h = ap (λ (r : ReplicaView). r ∷ replicas_of ss) (sym (h s refl))
changed_sides (suc k) f g (s ∷ ss) h = ap (λ t. replica_of s ∷ t) (changed_sides k f g ss h)

-- where the side's replica stays, all do
pub sides_stay : (k : ℕ) (f : Side → Side) (ss : List Side) → ((s : Side) → slice_get ss k ≡ Some s → replica_of (f s) ≡ replica_of s) → replicas_of ss ≡ replicas_of (with_side k f ss)
sides_stay k f [] h = refl
sides_stay zero f (s ∷ ss) h = ap (λ (r : ReplicaView). r ∷ replicas_of ss) (sym (h s refl))
sides_stay (suc k) f (s ∷ ss) h = ap (λ t. replica_of s ∷ t) (sides_stay k f ss h)

pub get_replica : (ss : List Side) (k : ℕ) → slice_get (replicas_of ss) k ≡ option_map replica_of (slice_get ss k)
get_replica [] k = refl
get_replica (s ∷ ss) zero = refl
get_replica (s ∷ ss) (suc k) = get_replica ss k

pub get_side : (k : ℕ) (f : Side → Side) (ss : List Side) → slice_get (with_side k f ss) k ≡ option_map f (slice_get ss k)
get_side k f [] = refl
get_side zero f (s ∷ ss) = refl
get_side (suc k) f (s ∷ ss) = get_side k f ss

pub sides_past : (k : ℕ) (f : Side → Side) (ss : List Side) → slice_get ss k ≡ None → with_side k f ss ≡ ss
sides_past k f [] h = refl
sides_past zero f (s ∷ ss) h = cc
sides_past (suc k) f (s ∷ ss) h = ap (λ t. s ∷ t) (sides_past k f ss h)

-- a replica is its agent and its two lists
pub made_of : (a : List ℕ) (q : ReplicaView) → a ≡ q.agent → (record { agent = a; confirmed = q.confirmed; unsent = q.unsent }) ≡ q
made_of a q e = λ i. record { agent = e i; confirmed = q.confirmed; unsent = q.unsent }

-- no call changes the agent
pub write_agent : (limits : Room) (r : ReplicaView) (c : Change) → r.agent ≡ (write limits r c).agent
write_agent limits r c = go (is_written limits r c)
  where
    go : (b : Bool) → r.agent ≡ (cond b (with_unsent r (additions r c)) r).agent
    go true = refl
    go false = refl

pub confirm_agent : (r : ReplicaView) (us : List UpdateView) → r.agent ≡ (confirm r us).agent
confirm_agent r [] = refl
confirm_agent r (u ∷ us) = refl

pub learnt_agent : (r : ReplicaView) (u : UpdateView) (a : Learnt) → r.agent ≡ (learnt r u a).agent
learnt_agent r u Confirmed = confirm_agent r r.unsent
learnt_agent r u (Judged accepts.New) = refl
learnt_agent r u (Judged accepts.Known) = refl
learnt_agent r u (Judged (accepts.Clash v)) = refl
learnt_agent r u (Judged (accepts.UnknownParent v)) = refl
learnt_agent r u (Judged (accepts.OutOfRange patch len)) = refl
learnt_agent r u (Judged (accepts.Full which need room)) = refl
learnt_agent r u (Judged accepts.Memory) = refl

pub acked_agent : (v : List ℕ) (r : ReplicaView) → r.agent ≡ (acked v r).agent
acked_agent v r = go (has_first v r.unsent)
  where
    go : (b : Bool) → r.agent ≡ (cond b (confirm r r.unsent) r).agent
    go true = confirm_agent r r.unsent
    go false = refl

-- the replica of a side that was given another one
pub given : (s : Side) (o : Option Reading) (q : ReplicaView) → s.agent ≡ q.agent → replica_of (with_replica s o q) ≡ q
given s o q e = made_of s.agent q e

-- a Write
pub written_sides : (a : ℕ) (c : Change) (ss : List Side) → changed a (λ (r : ReplicaView). write replica_limits r c) (replicas_of ss) ≡ replicas_of (with_side a (writes replica_limits c) ss)
written_sides a c ss = changed_sides a (writes replica_limits c) (λ (r : ReplicaView). write replica_limits r c) ss (λ s h. given s s.reading (write replica_limits (replica_of s) c) (write_agent replica_limits (replica_of s) c))

-- an Open
pub opened_sides : (a : ℕ) (ss : List Side) → replicas_of ss ≡ replicas_of (with_side a opens ss)
opened_sides a ss = sides_stay a opens ss (λ s h. refl)

pub opened_at : (a : ℕ) (ss : List Side) → option_map resume_of (slice_get (replicas_of ss) a) ≡ opened_from (slice_get (with_side a opens ss) a)
opened_at a ss = ap (option_map resume_of) (get_replica ss a) ∙ go (slice_get ss a) ∙ ap opened_from (sym (get_side a opens ss))
  where
    go : (o : Option Side) → option_map resume_of (option_map replica_of o) ≡ opened_from (option_map opens o)
    go None = refl
    go (Some s) = refl

-- a Cut and a Keep
pub cut_sides : (a : ℕ) (ss : List Side) → replicas_of ss ≡ replicas_of (with_side a cuts ss)
cut_sides a ss = sides_stay a cuts ss (λ s h. refl)

pub kept_sides : (a : ℕ) (ss : List Side) → replicas_of ss ≡ replicas_of (with_side a keeps ss)
kept_sides a ss = sides_stay a keeps ss (λ s h. refl)

-- a Carry
pub carried_sides : (a : ℕ) (H : List UpdateView) (ss : List Side) → carried a H (slice_get ss a) (replicas_of ss) ≡ replicas_of (with_side a (carries replica_limits H) ss)
carried_sides a H ss = go (slice_get ss a) refl
  where
    f : Side → Side
    f = carries replica_limits H

    go : (o : Option Side) → slice_get ss a ≡ o → carried a H o (replicas_of ss) ≡ replicas_of (with_side a f ss)
    go None e = ap replicas_of (sym (sides_past a f ss e))
    go (Some s) e = reads s.reading refl
      where
        here : (t : Side) → slice_get ss a ≡ Some t → s ≡ t
        here t h = cc

        reads : (o : Option Reading) → s.reading ≡ o → read_at a H o (replicas_of ss) ≡ replicas_of (with_side a f ss)
        reads None g = sides_stay a f ss (λ t h. subst (λ (x : Side). replica_of (f x) ≡ replica_of x) (here t h) (ap (λ (o : Option Reading). replica_of (carries_from replica_limits H s o)) g))
        reads (Some rd) g = learns_it (slice_get (sent H rd.from) rd.position) refl
          where
            is : (o : Option UpdateView) → slice_get (sent H rd.from) rd.position ≡ o → f s ≡ learns replica_limits s rd o
            is o h = ap (carries_from replica_limits H s) g ∙ ap (learns replica_limits s rd) h

            learns_it : (o : Option UpdateView) → slice_get (sent H rd.from) rd.position ≡ o → learnt_at a o (replicas_of ss) ≡ replicas_of (with_side a f ss)
            learns_it None h = sides_stay a f ss (λ t k. subst (λ (x : Side). replica_of (f x) ≡ replica_of x) (here t k) (ap replica_of (is None h)))
            learns_it (Some u) h = changed_sides a f (λ (r : ReplicaView). learn replica_limits r u) ss (λ t k. subst (λ (x : Side). replica_of (f x) ≡ learn replica_limits (replica_of x) u) (here t k)
                (ap replica_of (is (Some u) h) ∙ given s (reading_after rd (learn_answer replica_limits (replica_of s) u)) (learn replica_limits (replica_of s) u) (learnt_agent (replica_of s) u (learn_answer replica_limits (replica_of s) u))))

-- a Back
pub returned_sides : (a : ℕ) (ss : List Side) → returned a (slice_get ss a) (replicas_of ss) ≡ replicas_of (with_side a goes_back ss)
returned_sides a ss = go (slice_get ss a) refl
  where
    go : (o : Option Side) → slice_get ss a ≡ o → returned a o (replicas_of ss) ≡ replicas_of (with_side a goes_back ss)
    go None e = ap replicas_of (sym (sides_past a goes_back ss e))
    go (Some s) e = changed_sides a goes_back (λ (r : ReplicaView). kept_of s) ss (λ t h. let g : t ≡ s = cc in ap kept_of g)

-- an Ack
pub acknowledged_sides : (o : Option Answered) (w : World) → acknowledged o (replicas_of w.sides) ≡ replicas_of (replied o w).sides
acknowledged_sides None w = refl
acknowledged_sides (Some r) w = go (r.status == 200)
  where
    go : (b : Bool) → cond b (changed r.by (acked r.id) (replicas_of w.sides)) (replicas_of w.sides) ≡ replicas_of (cond b (at_side r.by (acks r.id) w) w).sides
    go true = changed_sides r.by (acks r.id) (acked r.id) w.sides (λ s h. given s s.reading (acked r.id (replica_of s)) (acked_agent r.id (replica_of s)))
    go false = refl

-- a Post
pub first_of : (a : ℕ) (ss : List Side) → option_and_then (λ (r : ReplicaView). slice_get r.unsent 0) (slice_get (replicas_of ss) a) ≡ first_unsent (slice_get ss a)
first_of a ss = ap (option_and_then (λ (r : ReplicaView). slice_get r.unsent 0)) (get_replica ss a) ∙ go (slice_get ss a)
  where
    go : (o : Option Side) → option_and_then (λ (r : ReplicaView). slice_get r.unsent 0) (option_map replica_of o) ≡ first_unsent o
    go None = refl
    go (Some s) = refl
