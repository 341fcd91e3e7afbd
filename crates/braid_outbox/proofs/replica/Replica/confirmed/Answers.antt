use Rattle.std.proofs.Common.{length, sym, ap, ◌∙◌}
use Rattle.braid_outbox.specs.Replicas.{ReplicaView}
use Rattle.braid_outbox.proofs.Keeping.{confirmed_length}
use Rattle.braid_outbox.proofs.Loaded.{fine_now}
use Rattle.braid_outbox.proofs.ReadNow.{few_now}
use Rattle.braid_outbox.proofs.replica.Replica.confirmed.Goals as goal

pub returns-clause-count : goal.returns-clause-count
returns-clause-count c = sym (confirmed_length _ _ _ _ _ c.self.invariant.kept) ∙ ap (λ (r : ReplicaView). length r.confirmed) c.self.view_is

pub returns-clause-few : goal.returns-clause-few
returns-clause-few c = few_now _ _ _ _ _ c.self.invariant.kept _ c.self.view_is

pub returns-clause-fine : goal.returns-clause-fine
returns-clause-fine c = fine_now _ _ _ _ _ c.self.invariant.kept _ c.self.view_is
