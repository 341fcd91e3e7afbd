-- What each event makes of a world, and what lists of events do.
use Rattle.std.specs.Prelude.{ℕ, zero, suc, List, [], ◌∷◌, ◌++◌, ◌+◌, ◌==◌, map, Bool, true, not, ◌&&◌, ◌||◌, if◌then◌else◌, Option, Some, None, unwrap_or, is_some, slice_get}
use Rattle.braid_change.specs.declared.change.Change.{Change}
use Rattle.braid_change.specs.Updates.{UpdateView}
use Rattle.braid_text.specs.Sent.{sent}
use Rattle.braid_text.specs.Refusals.{find_in}
use Rattle.braid_text.specs.Answers.{refusal_to}
use Rattle.braid_text.specs.declared.room.Room.{Room}
use Rattle.braid_text.specs.declared.room.Which.TheVariants.{Versions}
use Rattle.braid_text.specs.declared.accept.Accept.{Accept}
use Rattle.braid_text.specs.declared.accept.Accept.TheVariants.{New, Known, Clash, UnknownParent, OutOfRange, Full, Memory}
use Rattle.braid_outbox.specs.declared.world.World.{World}
use Rattle.braid_outbox.specs.declared.world.Side.{Side}
use Rattle.braid_outbox.specs.declared.world.Reading.{Reading}
use Rattle.braid_outbox.specs.declared.world.Posted.{Posted}
use Rattle.braid_outbox.specs.declared.world.Answered.{Answered}
use Rattle.braid_outbox.specs.declared.world.Event.{Event}
use Rattle.braid_outbox.specs.declared.world.Event.TheVariants.{Write, Open, Carry, Cut, Keep, Back, Post, Land, Ack, Foreign}
use Rattle.braid_outbox.specs.Shapes.{is_update}
use Rattle.braid_outbox.specs.Replicas.{ReplicaView, resume_of, number}
use Rattle.braid_outbox.specs.Writes.{write}
use Rattle.braid_outbox.specs.Learns.{Learnt, Confirmed, Judged, learn_answer, learnt, acked}

-- the replica of a side
abbrev pub replica_of : Side → ReplicaView
replica_of s = record { agent = s.agent; confirmed = s.confirmed; unsent = s.unsent }

-- the kept copy of a side
abbrev pub kept_of : Side → ReplicaView
kept_of s = record { agent = s.agent; confirmed = s.kept_confirmed; unsent = s.kept_unsent }

-- side number k changed
abbrev pub with_side : ℕ → (Side → Side) → List Side → List Side
with_side k f [] = []
with_side zero f (s ∷ ss) = f s ∷ ss
with_side (suc k) f (s ∷ ss) = s ∷ with_side k f ss

-- the world with side number k changed
abbrev pub at_side : ℕ → (Side → Side) → World → World
at_side k f w = record { history = w.history; sides = with_side k f w.sides; puts = w.puts; replies = w.replies }

-- the side with another replica and another subscription
abbrev pub with_replica : Side → Option Reading → ReplicaView → Side
with_replica s reading r = record {
  agent = s.agent;
  confirmed = r.confirmed;
  unsent = r.unsent;
  kept_confirmed = s.kept_confirmed;
  kept_unsent = s.kept_unsent;
  reading = reading;
}

-- the replica writes a change
abbrev pub writes : Room → Change → Side → Side
writes limits c s = with_replica s s.reading (write limits (replica_of s) c)

-- a subscription is opened where the replica resumes
abbrev pub opens : Side → Side
opens s = with_replica s (Some (record { from = resume_of (replica_of s); position = 0 })) (replica_of s)

-- the subscription ends
abbrev pub cuts : Side → Side
cuts s = with_replica s None (replica_of s)

-- the kept copy becomes the replica as it is
abbrev pub keeps : Side → Side
keeps s = record {
  agent = s.agent;
  confirmed = s.confirmed;
  unsent = s.unsent;
  kept_confirmed =
      s.confirmed;
  kept_unsent = s.unsent;
  reading = s.reading;
}

-- the replica becomes its kept copy, and its subscription ends
abbrev pub goes_back : Side → Side
goes_back s = with_replica s None (kept_of s)

-- the subscription that has carried one update more
abbrev pub one_further : Reading → Option Reading
one_further rd = Some (record { from = rd.from; position = rd.position + 1 })

-- the subscription after an answer: one further, or ended by a refusal
abbrev pub reading_after : Reading → Learnt → Option Reading
reading_after rd Confirmed = one_further rd
reading_after rd (Judged New) = one_further rd
reading_after rd (Judged Known) = one_further rd
reading_after rd (Judged (Clash v)) = None
reading_after rd (Judged (UnknownParent v)) = None
reading_after rd (Judged (OutOfRange patch len)) = None
reading_after rd (Judged (Full which need room)) = None
reading_after rd (Judged Memory) = None

-- the replica learns the update that its subscription carries, where there is one
abbrev pub learns : Room → Side → Reading → Option UpdateView → Side
learns limits s rd None = s
learns limits s rd (Some u) =
    let a = learn_answer limits (replica_of s) u in
    with_replica s (reading_after rd a) (learnt (replica_of s) u a)

-- a subscription, where there is one, carries the update at its position of what is sent past its frontier
abbrev pub carries_from : Room → List UpdateView → Side → Option Reading → Side
carries_from limits H s None = s
carries_from limits H s (Some rd) = learns limits s rd (slice_get (sent H rd.from) rd.position)

-- the side's subscription carries its next update
abbrev pub carries : Room → List UpdateView → Side → Side
carries limits H s = carries_from limits H s s.reading

-- the replica has an update of this identifier, confirmed or unsent
abbrev pub has_update : List ℕ → ReplicaView → Bool
has_update v r = is_some (find_in v r.confirmed) || is_some (find_in v r.unsent)

-- the first of these updates is made a PUT, where the kept copy holds it
abbrev pub posts_first : ℕ → Side → List UpdateView → World → World
posts_first k s [] w = w
posts_first k s (u ∷ us) w = if has_update u.id (kept_of s)
    then record {
      history = w.history;
      sides = w.sides;
      puts = w.puts ++ record { by = k; update = u } ∷ [];
      replies =
          w.replies;
    }
    else w

-- a side, where there is one, makes a PUT of its first unsent update
abbrev pub posts : ℕ → Option Side → World → World
posts k None w = w
posts k (Some s) w = posts_first k s s.unsent w

-- the answer to a PUT, of which a New is answered Full where `full` is true
abbrev pub land_answer : Bool → List UpdateView → UpdateView → Accept
land_answer full H u = unwrap_or (refusal_to H u) (if full then Full Versions 1 0 else New)

-- the status of the reply to a PUT
abbrev pub status_of : Accept → ℕ
status_of New = 200
status_of Known = 200
status_of (Clash v) = 409
status_of (UnknownParent v) = 409
status_of (OutOfRange patch len) = 422
status_of (Full which need room) = 507
status_of Memory = 507

-- the history after an answer
abbrev pub after : List UpdateView → UpdateView → Accept → List UpdateView
after H u New = H ++ u ∷ []
after H u a = H

-- a PUT, where there is one, is put to the history, and its reply is made
abbrev pub lands : Bool → Option Posted → World → World
lands full None w = w
lands full (Some p) w = let a = land_answer full w.history p.update in record {
  history = after w.history p.update a;
  sides = w.sides;
  puts = w.puts;
  replies = w.replies ++ record { by = p.by; id = p.update.id; status = status_of a } ∷ [];
}

-- the replica is told that an update was taken
abbrev pub acks : List ℕ → Side → Side
acks v s = with_replica s s.reading (acked v (replica_of s))

-- a reply, where there is one and its status is 200, comes back to its maker
abbrev pub replied : Option Answered → World → World
replied None w = w
replied (Some r) w = if r.status == 200 then at_side r.by (acks r.id) w else w

-- the identifier is no version's name of any side's agent
abbrev pub is_foreign : List ℕ → List Side → Bool
is_foreign v [] = true
is_foreign v (s ∷ ss) = not (is_some (number s.agent v)) && is_foreign v ss

-- another author's update joins the history, where the longer history is legal
abbrev pub joins : UpdateView → World → World
joins u w = if is_foreign u.id w.sides && (is_update u && not (is_some (refusal_to w.history u)))
    then record { history = w.history ++ u ∷ []; sides = w.sides; puts = w.puts; replies = w.replies }
    else w

-- what an event makes of a world whose replicas have these limits; an event that does not apply changes nothing
abbrev pub step : Room → World → Event → World
step limits w (Write a change) = at_side a (writes limits change) w
step limits w (Open a) = at_side a opens w
step limits w (Carry a) = at_side a (carries limits w.history) w
step limits w (Cut a) = at_side a cuts w
step limits w (Keep a) = at_side a keeps w
step limits w (Back a) = at_side a goes_back w
step limits w (Post a) = posts a (slice_get w.sides a) w
step limits w (Land k full) = lands full (slice_get w.puts k) w
step limits w (Ack k) = replied (slice_get w.replies k) w
step limits w (Foreign update) = joins update w

-- what events make of a world, one after the other
abbrev pub run : Room → List Event → World → World
run limits [] w = w
run limits (e ∷ es) w = run limits es (step limits w e)

-- the side of an agent that has nothing yet
abbrev pub empty_side : List ℕ → Side
empty_side a = record { agent = a; confirmed = []; unsent = []; kept_confirmed = []; kept_unsent = []; reading = None }

-- the world of empty lists, with a replica for each of these agents
abbrev pub start : List (List ℕ) → World
start agents = record { history = []; sides = map empty_side agents; puts = []; replies = [] }
