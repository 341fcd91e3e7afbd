use Rattle.std.proofs.Common.{ap, subst}
use Rattle.braid_ids.specs.Agents.{IsAgent}
use Rattle.braid_outbox.specs.Replicas.{ReplicaView}
use Rattle.braid_outbox.proofs.replica.Replica.agent.Goals as goal

pub returns-clause-valid : goal.returns-clause-valid
returns-clause-valid c = subst IsAgent (ap (λ (r : ReplicaView). r.agent) c.self.view_is) c.bytes-bytes.ensures.valid
