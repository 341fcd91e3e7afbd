-- What a replica does with the updates that a subscription gives it.
use Rattle.std.specs.Prelude.{◌≡◌, ℕ, List, [], ◌∷◌, Option, Some, None}
use Rattle.braid_change.specs.Updates.{UpdateView}
use Rattle.braid_graph.specs.Entries.{HoldsAll}
use Rattle.braid_text.specs.Histories.{graph_of}
use Rattle.braid_outbox.specs.declared.learn.Learn.{Learn}
use Rattle.braid_outbox.specs.declared.learn.Learn.TheVariants as learns
use Rattle.braid_text.specs.Rooms.{replica_limits}
use Rattle.braid_outbox.specs.Replicas.{ReplicaView}
use Rattle.braid_outbox.specs.Learns.{learn_answer, learn, told}
use Rattle.braid_sync.specs.declared.end.SyncEnd.{SyncEnd}
use Rattle.braid_sync.specs.declared.end.SyncEnd.TheVariants as ends

-- the end that an answer of a replica is: none where the update is new, known, or its first unsent one
abbrev pub refusal_end : Learn → Option SyncEnd
refusal_end learns.New = None
refusal_end learns.Confirmed = None
refusal_end learns.Known = None
refusal_end (learns.Clash v) = Some (ends.Clash v)
refusal_end (learns.UnknownParent v) = Some (ends.UnknownParent v)
refusal_end (learns.OutOfRange patch len) = Some (ends.OutOfRange patch len)
refusal_end (learns.Full which limit) = Some (ends.Full which limit)
refusal_end learns.Memory = Some ends.Memory

-- what a replica answers to an update
abbrev pub answer_to : ReplicaView → UpdateView → Learn
answer_to r u = told replica_limits (learn_answer replica_limits r u)

-- the replica refuses the update, and this end says why
abbrev pub Refuses : ReplicaView → UpdateView → SyncEnd → Type 0
Refuses r u end = refusal_end (answer_to r u) ≡ Some end

-- the replica that an update leaves
abbrev pub learnt : ReplicaView → UpdateView → ReplicaView
learnt r u = learn replica_limits r u

-- these updates are learnt one after the other, none is refused, and the replica is then this one
abbrev pub Learns : ReplicaView → List UpdateView → ReplicaView → Type 0
Learns r [] q = q ≡ r
Learns r (u ∷ us) q = (refusal_end (answer_to r u) ≡ None) × Learns (learnt r u) us q

-- the confirmed updates hold a version, each identifier of it
abbrev pub HasVersion : ReplicaView → List (List ℕ) → Type 0
HasVersion r V = HoldsAll (graph_of r.confirmed) V

-- before each of these updates is learnt, the version is not held
abbrev pub Awaits : List (List ℕ) → ReplicaView → List UpdateView → Type 0
Awaits V r [] = Unit {0}
Awaits V r (u ∷ us) = ¬ (HasVersion r V) × Awaits V (learnt r u) us
