-- What a sync may count on, over the definitions of replicas and histories alone: a replica beside the history of a
-- server's path, of which it first sees a front and then longer ones.
use Rattle.std.specs.Prelude.{◌≡◌, ◌⊎◌, List, [], ◌∷◌, ◌++◌, Some, None, IsSome, Contains}
use Rattle.braid_ids.specs.Agents.{IsAgent}
use Rattle.braid_change.specs.Updates.{UpdateView}
use Rattle.braid_graph.specs.Entries.{Holds, HoldsAll}
use Rattle.braid_text.specs.Histories.{graph_of, IsLegal}
use Rattle.braid_text.specs.Answers.{refusal_to}
use Rattle.braid_text.specs.Sent.{sent}
use Rattle.braid_text.specs.declared.room.Room.{Room}
use Rattle.braid_text.specs.declared.accept.Accept.TheVariants as accepts
use Rattle.braid_outbox.specs.Replicas.{ReplicaView, all_of, IsSound, frontier, resume_of, number}
use Rattle.braid_outbox.specs.Learns.{Learnt, Confirmed, Judged, learn_answer, learn, acked}
use Rattle.braid_outbox.specs.Laws.{IsPart, IsLearnt}

-- a list begins with this front
abbrev pub IsFront : {A : Type 0} → List A → List A → Type 0
IsFront {A} front whole = (rest : List A) × (whole ≡ front ++ rest)

-- A replica beside a history of which it sees a front: the history is legal and the replica is sound, what is confirmed is
-- in the front, what is unsent has names of the agent, and each update of the whole history with such a name is one of the
-- replica's.
pub record IsBeside (H K : List UpdateView) (r : ReplicaView) : Type 0 where
  pub agent : IsAgent r.agent
  pub legal : IsLegal H
  pub front : IsFront K H
  pub sound : IsSound r
  pub part : IsPart r.confirmed K
  pub own : (u : UpdateView) → Contains r.unsent u → IsSome (number r.agent u.id)
  pub landed : (u : UpdateView) → Contains H u → IsSome (number r.agent u.id) → Contains (all_of r) u

-- A replica that was brought on from another one beside this front: it is sound, lost nothing, and confirmed nothing that
-- is not in the front; and it wrote nothing.
pub record IsBrought (K : List UpdateView) (r q : ReplicaView) : Type 0 where
  pub agent : q.agent ≡ r.agent
  pub sound : IsSound q
  pub part : IsPart q.confirmed K
  pub keeps : IsPart r.confirmed q.confirmed
  pub whole : IsPart (all_of r) (all_of q)
  pub unsent : IsPart q.unsent r.unsent

-- an update was taken, or was there
abbrev pub IsGood : Learnt → Type 0
IsGood Confirmed = Unit {0}
IsGood (Judged accepts.New) = Unit {0}
IsGood (Judged accepts.Known) = Unit {0}
IsGood (Judged (accepts.Clash v)) = ⊥
IsGood (Judged (accepts.UnknownParent v)) = ⊥
IsGood (Judged (accepts.OutOfRange patch len)) = ⊥
IsGood (Judged (accepts.Full which need room)) = ⊥
IsGood (Judged accepts.Memory) = ⊥

-- these updates are learnt one after the other, none is refused, and the replica is then this one
abbrev pub LearnsAll : Room → ReplicaView → List UpdateView → ReplicaView → Type 0
LearnsAll limits r [] q = q ≡ r
LearnsAll limits r (u ∷ us) q = IsGood (learn_answer limits r u) × LearnsAll limits (learn limits r u) us q

-- what a replica is brought to by the updates of a history is brought on from it
abbrev pub LearningBrings : Type 0
LearningBrings =
    (limits : Room) (H K : List UpdateView) (r q : ReplicaView) (us : List UpdateView)
    → IsBeside H K r → IsPart us K → LearnsAll limits r us q → IsBrought K r q

-- of what is sent past where a replica resumes, each update is learnt when those before it were, or there is no room for it
abbrev pub SentIsLearnt : Type 0
SentIsLearnt =
    (limits : Room) (H K : List UpdateView) (r q : ReplicaView) (us vs : List UpdateView) (u : UpdateView)
    → IsBeside H K r → sent K (resume_of r) ≡ us ++ u ∷ vs → LearnsAll limits r us q
    → IsLearnt (learn_answer limits q u)

-- where all of it was learnt, the frontier of the front is held
abbrev pub FrontierIsHeld : Type 0
FrontierIsHeld =
    (limits : Room) (H K : List UpdateView) (r q : ReplicaView)
    → IsBeside H K r → LearnsAll limits r (sent K (resume_of r)) q → HoldsAll (graph_of q.confirmed) (frontier K)

-- where the frontier of a shorter front is held, however that came, the replica has each update of that front
abbrev pub FrontIsHad : Type 0
FrontIsHad =
    (H K L : List UpdateView) (r q : ReplicaView)
    → IsBeside H L r → IsFront K L → IsBrought L r q → HoldsAll (graph_of q.confirmed) (frontier K)
    → IsPart K q.confirmed

-- as the front grows, all this stays
pub record StaysBeside : Type 0 where
  pub beside : (H K L : List UpdateView) (r : ReplicaView) → IsBeside H K r → IsFront K L → IsFront L H → IsBeside H L r
  pub brought : (K L : List UpdateView) (r q : ReplicaView) → IsBrought K r q → IsFront K L → IsBrought L r q

-- the first unsent update is known to the server, or may follow what it has
abbrev pub PutIsTaken : Type 0
PutIsTaken =
    (H K : List UpdateView) (r q : ReplicaView) (u : UpdateView) (us : List UpdateView)
    → IsBeside H K r → IsBrought K r q → q.unsent ≡ u ∷ us → (refusal_to K u ≡ Some accepts.Known)
    ⊎ (refusal_to K u ≡ None)

-- once the server has it, it goes to the confirmed ones, and the replica is brought on
abbrev pub PutIsConfirmed : Type 0
PutIsConfirmed =
    (H K : List UpdateView) (r q : ReplicaView) (u : UpdateView) (us : List UpdateView)
    → IsBeside H K r → IsBrought K r q → q.unsent ≡ u ∷ us → Holds (graph_of K) u.id
    → (acked u.id q ≡ record { agent = q.agent; confirmed = q.confirmed ++ u ∷ []; unsent = us })
    × IsBrought K r (acked u.id q)
