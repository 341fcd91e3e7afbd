use Rattle.std.proofs.Common.{length, ap, arith}
use Rattle.braid_outbox.specs.Replicas.{ReplicaView}
use Rattle.braid_outbox.proofs.Keeping.{unsent_length}
use Rattle.braid_outbox.proofs.replica.Replica.unsent.Goals as goal

pub returns : goal.returns
returns c = record { count = omega (arith, c.len.ensures, c.self.inside.order.numbers.ok.0, unsent_length _ _ _ _ _ c.self.invariant.kept, ap (λ (r : ReplicaView). length r.unsent) c.self.view_is) }
