use Rattle.std.proofs.Common.{Some, Ok, arith, sym, ap, subst, ◌∙◌, ◌+◌, ◌++◌, ◌∷◌, []}
use Rattle.std.proofs.lemmas.Option.{slice_get-get_or}
use Rattle.braid_outbox.specs.Replicas.{ReplicaView}
use Rattle.braid_outbox.specs.Made.{IsFine}
use Rattle.braid_outbox.proofs.Loaded.{unsent_bad}
use Rattle.braid_outbox.proofs.replica.Replica.load_unsent.Goals as goal

pub returns-in-Ok-false-clause-fault : goal.returns-in-Ok-false-clause-fault
returns-in-Ok-false-clause-fault c =
    let u = c.index-updates-n.result in
    unsent_bad c.args.self.now.confirmed c.args.updates.now c.loop-n.n (c.confirmed-base.result + c.loop-n.n) u (ap Some c.index-updates-n.is ∙ sym (slice_get-get_or c.args.updates.now c.loop-n.n u c.loop-n-test.true)) c.loop-n-test.true (omega (arith, c.confirmed-base.ensures.count))
    (subst (λ (r : ReplicaView). IsFine r.confirmed r.unsent) c.loop-n.invariant c.in-Ok-false.ensures.fine)
    (subst (λ (r : ReplicaView). IsFine r.confirmed (r.unsent ++ u ∷ []) → ⊥) c.loop-n.invariant (c.in-Ok-false.ensures.refused (ap Ok c.in-Ok-false.field-0-test)))
