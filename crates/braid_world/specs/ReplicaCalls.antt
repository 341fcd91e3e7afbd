-- What the calls of one event make of a list of replicas.
use Rattle.std.specs.Prelude.{ℕ, List, Option, Some, None, if◌then◌else◌, ◌==◌, slice_get}
use Rattle.braid_change.specs.Updates.{UpdateView}
use Rattle.braid_text.specs.Sent.{sent}
use Rattle.braid_outbox.specs.declared.world.Side.{Side}
use Rattle.braid_outbox.specs.declared.world.Reading.{Reading}
use Rattle.braid_outbox.specs.declared.world.Answered.{Answered}
use Rattle.braid_text.specs.Rooms.{replica_limits}
use Rattle.braid_outbox.specs.Replicas.{ReplicaView}
use Rattle.braid_outbox.specs.Learns.{learn, acked}
use Rattle.braid_outbox.specs.Worlds.{kept_of}
use Rattle.braid_world.specs.Events.{changed}

-- a replica learnt an update, where there is one
abbrev pub learnt_at : ℕ → Option UpdateView → List ReplicaView → List ReplicaView
learnt_at a None rs = rs
learnt_at a (Some u) rs = changed a (λ (r : ReplicaView). learn replica_limits r u) rs

-- a replica learnt what a subscription, where there is one, carries next of a history
abbrev pub read_at : ℕ → List UpdateView → Option Reading → List ReplicaView → List ReplicaView
read_at a H None rs = rs
read_at a H (Some rd) rs = learnt_at a (slice_get (sent H rd.from) rd.position) rs

-- the same of the subscription of a side, where there is one
abbrev pub carried : ℕ → List UpdateView → Option Side → List ReplicaView → List ReplicaView
carried a H None rs = rs
carried a H (Some s) rs = read_at a H s.reading rs

-- a replica became the kept copy of a side, where there is one
abbrev pub returned : ℕ → Option Side → List ReplicaView → List ReplicaView
returned a None rs = rs
returned a (Some s) rs = changed a (λ (r : ReplicaView). kept_of s) rs

-- a replica was told of a reply, where there is one and its status is 200
abbrev pub acknowledged : Option Answered → List ReplicaView → List ReplicaView
acknowledged None rs = rs
acknowledged (Some reply) rs = if reply.status == 200 then changed reply.by (acked reply.id) rs else rs
