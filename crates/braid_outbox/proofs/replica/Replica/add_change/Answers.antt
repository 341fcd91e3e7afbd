use Rattle.std.proofs.Common.{refl, ap, ◌∙◌, [], ◌∷◌}
use Rattle.braid_change.specs.Updates.{UpdateView}
use Rattle.braid_outbox.specs.Replicas.{ReplicaView}
use Rattle.braid_outbox.specs.Writes.{with_unsent}
use Rattle.braid_outbox.proofs.Written.{change_chained, change_next}
use Rattle.braid_outbox.proofs.replica.Replica.add_change.Goals as goal

pub add_unsent-requires : goal.add_unsent-requires
add_unsent-requires c = record { chained = change_chained c.args.self.now c.in_ok-parents.parents c.in-Ok.update.parents c.confirmed-confirmed.ensures.sound c.in_ok-parents.ensures.ok (ap (λ (u : UpdateView). u.parents) c.in-Ok.ensures.ok.0) }

pub returns-in-New-clause-added : goal.returns-in-New-clause-added
returns-in-New-clause-added c = c.in-New.ensures.taken refl ∙ ap (λ (u : UpdateView). with_unsent c.args.self.now (u ∷ [])) (change_next c.args.self.now c.in-Ok.update c.self.inside.agent c.in_ok-id.id c.args.number c.in_ok-parents.parents c.in_ok-copy.copy c.args.change.now c.in-Ok.ensures.ok.0 c.in_ok-id.ensures.ok (ap (λ (r : ReplicaView). r.agent) c.self.view_is) c.requires.number c.in_ok-parents.ensures.ok c.in_ok-copy.ensures.ok)
