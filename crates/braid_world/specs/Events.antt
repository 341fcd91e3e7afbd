-- What an event of a world is to the program: what its calls leave of a book and of replicas, and what they tell.
use Rattle.std.specs.Prelude.{◌≡◌, ◌⊎◌, ℕ, zero, suc, List, [], ◌∷◌, ◌++◌, map, Bool, true, false, if◌then◌else◌, Option, Some, None, length, slice_get, slice_set}
use Rattle.std.specs.Option.{option_map, option_and_then}
use Rattle.braid_change.specs.declared.change.Change.{Change}
use Rattle.braid_change.specs.Updates.{UpdateView}
use Rattle.braid_graph.specs.Entries.{HoldsAll}
use Rattle.braid_text.specs.Histories.{graph_of}
use Rattle.braid_store.specs.declared.entry.Entry.{Entry}
use Rattle.braid_store.specs.declared.put.Put.{Put}
use Rattle.braid_store.specs.declared.put.Put.TheVariants.{New, Known, Clash, UnknownParent, OutOfRange, Full, Memory}
use Rattle.braid_store.specs.Answers.{put_answer}
use Rattle.braid_outbox.specs.declared.world.World.{World}
use Rattle.braid_outbox.specs.declared.world.Side.{Side}
use Rattle.braid_outbox.specs.declared.world.Reading.{Reading}
use Rattle.braid_outbox.specs.declared.world.Posted.{Posted}
use Rattle.braid_outbox.specs.declared.world.Answered.{Answered}
use Rattle.braid_outbox.specs.declared.world.Event.{Event}
use Rattle.braid_outbox.specs.declared.world.Event.TheVariants.{Write, Open, Carry, Cut, Keep, Back, Post, Land, Ack, Foreign}
use Rattle.braid_text.specs.declared.room.Room.{Room}
use Rattle.braid_text.specs.Rooms.{replica_limits}
use Rattle.braid_outbox.specs.Replicas.{ReplicaView, resume_of}
use Rattle.braid_outbox.specs.Writes.{AddsMerges}
use Rattle.braid_outbox.specs.Made.{MakesReplica}
use Rattle.braid_outbox.specs.Worlds.{replica_of, step}
use Rattle.braid_world.specs.declared.calling.Called.{Called}

-- the replicas of sides, in their order
abbrev pub replicas_of : List Side → List ReplicaView
replicas_of ss = map replica_of ss

-- the kept copy of a side is a replica, within a replica's limits
abbrev pub KeepsReplica : Side → Type 0
KeepsReplica s = MakesReplica s.kept_confirmed s.kept_unsent

-- a history holds the frontier that a subscription, where there is one, was opened from
abbrev pub HoldsFrom : List UpdateView → Option Reading → Type 0
HoldsFrom H None = Unit {0}
HoldsFrom H (Some rd) = HoldsAll (graph_of H) rd.from

-- the same of a side's subscription
abbrev pub HoldsReading : List UpdateView → Side → Type 0
HoldsReading H s = HoldsFrom H s.reading

-- the entry of an update that is put to a path by a number
abbrev pub entry_at : List ℕ → ℕ → UpdateView → Entry
entry_at path by u = record { path = path; by = by; update = u }

-- whether an answer of a book is that there is no room
abbrev pub is_full : Put → Bool
is_full New = false
is_full Known = false
is_full (Clash v) = false
is_full (UnknownParent v) = false
is_full (OutOfRange patch len) = false
is_full (Full which limit) = true
is_full Memory = false

-- whether a book answers to an update at a path that there is no room
abbrev pub has_no_room : List Entry → List ℕ → ℕ → UpdateView → Bool
has_no_room B path by u = is_full (put_answer B (entry_at path by u))

-- the same of the update of a PUT, where there is one
abbrev pub lands_full : List Entry → List ℕ → ℕ → Option Posted → Bool
lands_full B path by None = false
lands_full B path by (Some p) = has_no_room B path by p.update

-- The event as the book makes it: a Land is answered that there is no room exactly where the book answers so, whatever the
-- event says of it; and an update of another author for which the book has no room is no event.
abbrev pub event_on : List Entry → List ℕ → ℕ → World → Event → Option Event
event_on B path by w (Write a change) = Some (Write a change)
event_on B path by w (Open a) = Some (Open a)
event_on B path by w (Carry a) = Some (Carry a)
event_on B path by w (Cut a) = Some (Cut a)
event_on B path by w (Keep a) = Some (Keep a)
event_on B path by w (Back a) = Some (Back a)
event_on B path by w (Post a) = Some (Post a)
event_on B path by w (Land k full) = Some (Land k (lands_full B path by (slice_get w.puts k)))
event_on B path by w (Ack k) = Some (Ack k)
event_on B path by w (Foreign update) = if has_no_room B path by update then None else Some (Foreign update)

-- what an event, where there is one, makes of a world whose replicas have the limits of a replica
abbrev pub stepped : World → Option Event → World
stepped w None = w
stepped w (Some e) = step replica_limits w e

-- what the calls of an event on a book make of a world
abbrev pub world_after : List Entry → List ℕ → ℕ → World → Event → World
world_after B path by w e = stepped w (event_on B path by w e)

-- a book gained what a history gained: nothing, or an entry of one update
abbrev pub Gains : List ℕ → ℕ → List Entry → List Entry → List UpdateView → List UpdateView → Type 0
Gains path by B C H K = ((C ≡ B) × (K ≡ H))
    ⊎ ((u : UpdateView) × (C ≡ B ++ entry_at path by u ∷ []) × (K ≡ H ++ u ∷ []))

-- where the subscription of a side, where there is one, was opened from
abbrev pub opened_from : Option Side → Option (List (List ℕ))
opened_from o = option_map (λ (rd : Reading). rd.from) (option_and_then (λ (s : Side). s.reading) o)

-- the first unsent update of a side, where there is one
abbrev pub first_unsent : Option Side → Option UpdateView
first_unsent o = option_and_then (λ (s : Side). slice_get s.unsent 0) o

-- the frontier that is told of an event that leaves a world: that of the subscription that an Open opened
abbrev pub from_of : Event → World → Option (List (List ℕ))
from_of (Open a) next = opened_from (slice_get next.sides a)
from_of e next = None

-- the update that is told of an event of a world: the first unsent one of the side that a Post names, which is the update of
-- the PUT where one is made
abbrev pub head_of : Event → World → Option UpdateView
head_of (Post a) w = first_unsent (slice_get w.sides a)
head_of e w = None

-- the status that is told: that of the reply that was made, where one was
abbrev pub status_made : World → World → Option ℕ
status_made w next = option_map (λ (r : Answered). r.status) (slice_get next.replies (length w.replies))

-- What the calls of an event leave of a book, of a path's history in it and of replicas, and what they tell, where the
-- event makes this world of that one.
pub record Leaves (path : List ℕ) (by : ℕ) (e : Event) (w next : World) (B C : List Entry) (replicas : List ReplicaView)
    (called : Called) : Type 0 where
  pub gains : Gains path by B C w.history next.history
  pub replicas_are : replicas ≡ replicas_of next.sides
  pub from : called.from ≡ from_of e next
  pub head : called.head ≡ head_of e w
  pub status : called.status ≡ status_made w next

-- one replica changed
abbrev pub changed : ℕ → (ReplicaView → ReplicaView) → List ReplicaView → List ReplicaView
changed k f [] = []
changed zero f (r ∷ rs) = f r ∷ rs
changed (suc k) f (r ∷ rs) = r ∷ changed k f rs

-- at one replica pure merges were added for a change that is written, some or none, and nothing else
pub record MergesAt (k : ℕ) (change : Change) (old new : List ReplicaView) : Type 0 where
  pub found : ReplicaView
  pub left : ReplicaView
  pub there : slice_get old k ≡ Some found
  pub merged : AddsMerges replica_limits found change left
  pub set : new ≡ slice_set old k left

-- What is left of replicas at want of memory: they are as before, but for the pure merges of a Write.
abbrev pub LeavesMerges : Event → List ReplicaView → List ReplicaView → Type 0
LeavesMerges (Write a change) old new = (new ≡ old) ⊎ MergesAt a change old new
LeavesMerges e old new = new ≡ old

-- the status of the reply to a PUT with this answer; to want of memory there is no reply, and this is not asked
abbrev pub put_status : Put → ℕ
put_status New = 200
put_status Known = 200
put_status (Clash v) = 409
put_status (UnknownParent v) = 409
put_status (OutOfRange patch len) = 422
put_status (Full which limit) = 507
put_status Memory = 507

-- what a book gains by an answer: an entry where it is New
abbrev pub after_put : List Entry → Entry → Put → List Entry
after_put B e New = B ++ e ∷ []
after_put B e a = B

-- a PUT, where there is one, was put to a path of a book, and this status was told
abbrev pub Lands : List ℕ → ℕ → List Entry → List Entry → Option Posted → Option ℕ → Type 0
Lands path by B C None status = (C ≡ B) × (status ≡ None)
Lands path by B C (Some p) status = let e = entry_at path by p.update in let a = put_answer B e in (C ≡ after_put B e a)
    × (status ≡ Some (put_status a))

-- where a Post makes a PUT, its update is the one that is told
abbrev pub HeadIsPosted : Type 0
HeadIsPosted =
    (limits : Room) (w : World) (a : ℕ) (p : Posted)
    → slice_get (step limits w (Post a)).puts (length w.puts) ≡ Some p → head_of (Post a) w ≡ Some p.update

-- where an Open opens a side's subscription, the frontier that is told is where its replica resumes
abbrev pub FromIsResumed : Type 0
FromIsResumed =
    (limits : Room) (w : World) (a : ℕ) (s : Side)
    → slice_get w.sides a ≡ Some s → from_of (Open a) (step limits w (Open a)) ≡ Some (resume_of (replica_of s))
