-- What learning and acknowledging do to a replica.
use Rattle.std.specs.Prelude.{ℕ, List, [], ◌∷◌, ◌++◌, Bool, false, if◌then◌else◌, Option, Some, None, unwrap_or}
use Rattle.std.specs.Ordering.{is_eq}
use Rattle.braid_ids.specs.Identifiers.{id_cmp}
use Rattle.braid_change.specs.Updates.{UpdateView}
use Rattle.braid_text.specs.Refusals.{same_update, find_in, first_full, first_there}
use Rattle.braid_text.specs.Answers.{refusal_to, needs_of, room_of}
use Rattle.braid_text.specs.declared.room.Room.{Room}
use Rattle.braid_text.specs.declared.accept.Accept.{Accept}
use Rattle.braid_text.specs.declared.accept.Accept.TheVariants.{New, Known, Clash, UnknownParent, OutOfRange, Full, Memory}
use Rattle.braid_outbox.specs.declared.learn.Learn.{Learn}
use Rattle.braid_outbox.specs.declared.learn.Learn.TheVariants.{New as LearnNew, Confirmed as LearnConfirmed, Known as LearnKnown, Clash as LearnClash, UnknownParent as LearnUnknownParent, OutOfRange as LearnOutOfRange, Full as LearnFull, Memory as LearnMemory}
use Rattle.braid_outbox.specs.Replicas.{ReplicaView, all_of}
use Rattle.braid_text.specs.Rooms.{limit_of}

-- the first unsent update goes to the end of the confirmed ones
abbrev pub confirm : ReplicaView → List UpdateView → ReplicaView
confirm r [] = r
confirm r (u ∷ us) = record { agent = r.agent; confirmed = r.confirmed ++ u ∷ []; unsent = us }

-- the first update has the identifier
abbrev pub has_first : List ℕ → List UpdateView → Bool
has_first v [] = false
has_first v (u ∷ us) = is_eq (id_cmp v u.id)

-- what an acknowledgement leaves: the first unsent update is confirmed where it has the identifier
abbrev pub acked : List ℕ → ReplicaView → ReplicaView
acked v r = if has_first v r.unsent then confirm r r.unsent else r

-- the update is the first of the list
abbrev pub is_first : UpdateView → List UpdateView → Bool
is_first u [] = false
is_first u (w ∷ us) = same_update u w

-- Clash where an update of this identifier is found and is another
abbrev pub clash : UpdateView → Option UpdateView → Option Accept
clash u None = None
clash u (Some w) = if same_update u w then None else Some (Clash u.id)

-- what a replica answers to an update: that it is its first unsent one, or what the update was judged to be
pub data Learnt : Type 0 where
  Confirmed : Learnt
  Judged : Accept → Learnt

-- the answer: Confirmed; Clash with an unsent update; the refusal of the confirmed updates; Full by the limits over both lists together; New
abbrev pub learn_answer : Room → ReplicaView → UpdateView → Learnt
learn_answer limits r u = if is_first u r.unsent then Confirmed else
    Judged (unwrap_or (first_there (clash u (find_in u.id r.unsent))
    (first_there (refusal_to r.confirmed u) (first_full (needs_of (all_of r) u) (room_of limits (all_of r))))) New)

-- what an answer leaves: a new update goes to the end of the confirmed ones
abbrev pub learnt : ReplicaView → UpdateView → Learnt → ReplicaView
learnt r u Confirmed = confirm r r.unsent
learnt r u (Judged New) = record { agent = r.agent; confirmed = r.confirmed ++ u ∷ []; unsent = r.unsent }
learnt r u (Judged a) = r

-- what learning leaves
abbrev pub learn : Room → ReplicaView → UpdateView → ReplicaView
learn limits r u = learnt r u (learn_answer limits r u)

-- the answer as the call gives it; Full names the limit
abbrev pub told : Room → Learnt → Learn
told limits Confirmed = LearnConfirmed
told limits (Judged New) = LearnNew
told limits (Judged Known) = LearnKnown
told limits (Judged (Clash v)) = LearnClash v
told limits (Judged (UnknownParent v)) = LearnUnknownParent v
told limits (Judged (OutOfRange patch len)) = LearnOutOfRange patch len
told limits (Judged (Full which need room)) = LearnFull which (limit_of limits which)
told limits (Judged Memory) = LearnMemory
