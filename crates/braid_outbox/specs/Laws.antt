-- What holds in every world that events lead to, and of every replica.
use Rattle.std.specs.Prelude.{◌≡◌, ◌≢◌, ◌≤◌, ℕ, List, [], ◌∷◌, length, Option, Some, None, Contains, slice_get}
use Rattle.std.specs.List.{AllByRecursion}
use Rattle.braid_ids.specs.Agents.{IsAgent}
use Rattle.braid_change.specs.Updates.{UpdateView}
use Rattle.braid_graph.specs.Entries.{HoldsAll}
use Rattle.braid_text.specs.Histories.{graph_of}
use Rattle.braid_text.specs.Sent.{sent}
use Rattle.braid_text.specs.declared.room.Room.{Room}
use Rattle.braid_text.specs.declared.accept.Accept.{Accept}
use Rattle.braid_text.specs.declared.accept.Accept.TheVariants.{New, Known, Clash, UnknownParent, OutOfRange, Full, Memory}
use Rattle.braid_outbox.specs.declared.world.World.{World}
use Rattle.braid_outbox.specs.declared.world.Side.{Side}
use Rattle.braid_outbox.specs.declared.world.Reading.{Reading}
use Rattle.braid_outbox.specs.declared.world.Event.{Event}
use Rattle.braid_outbox.specs.Replicas.{ReplicaView, all_of, IsSound}
use Rattle.braid_outbox.specs.Learns.{Learnt, Confirmed, Judged, learn_answer}
use Rattle.braid_outbox.specs.Worlds.{replica_of, run, start}

-- no two of these are the same
abbrev pub AreDifferent : List (List ℕ) → Type 0
AreDifferent [] = Unit {0}
AreDifferent (a ∷ agents) = AllByRecursion (λ (b : List ℕ). a ≢ b) agents × AreDifferent agents

-- agents, no two of which are the same
pub record AreAgents (agents : List (List ℕ)) : Type 0 where
  pub each : (a : List ℕ) → Contains agents a → IsAgent a
  pub different : AreDifferent agents

-- the world that events lead to from empty lists
abbrev pub reached : Room → List (List ℕ) → List Event → World
reached limits agents events = run limits events (start agents)

-- each update of the first list is in the second
abbrev pub IsPart : List UpdateView → List UpdateView → Type 0
IsPart C H = (u : UpdateView) → Contains C u → Contains H u

-- a replica beside a history: it is sound, and its confirmed updates have their parents and are a part of the history
pub record Keeps (H : List UpdateView) (r : ReplicaView) : Type 0 where
  pub sound : IsSound r
  pub closed : (u : UpdateView) → Contains r.confirmed u → HoldsAll (graph_of r.confirmed) u.parents
  pub part : IsPart r.confirmed H

-- a subscription has carried all that is sent past its frontier
abbrev pub IsAtEnd : List UpdateView → Option Reading → Type 0
IsAtEnd H None = ⊥
IsAtEnd H (Some rd) = length (sent H rd.from) ≤ rd.position

-- the answer is no refusal, or is one for want of room
abbrev pub IsTaken : Accept → Type 0
IsTaken New = Unit {0}
IsTaken Known = Unit {0}
IsTaken (Clash v) = ⊥
IsTaken (UnknownParent v) = ⊥
IsTaken (OutOfRange patch len) = ⊥
IsTaken (Full which need room) = Unit {0}
IsTaken Memory = ⊥

-- the same of what a replica answers
abbrev pub IsLearnt : Learnt → Type 0
IsLearnt Confirmed = Unit {0}
IsLearnt (Judged a) = IsTaken a

-- the update that a subscription carries next, where there is one, is not refused but for want of room
abbrev pub CarriesWell : Room → List UpdateView → Side → Option Reading → Type 0
CarriesWell limits H s None = Unit {0}
CarriesWell limits H s (Some rd) = (u : UpdateView) → slice_get (sent H rd.from) rd.position ≡ Some u
    → IsLearnt (learn_answer limits (replica_of s) u)

-- no update is lost
abbrev pub LosesNone : ReplicaView → ReplicaView → Type 0
LosesNone r q = IsPart (all_of r) (all_of q)
