use Rattle.std.proofs.Common.{◌∙◌, subst}
use Rattle.braid_outbox.specs.declared.faults.BadReplica.{BadReplica}
use Rattle.braid_outbox.specs.Made.{IsBadReplica}
use Rattle.braid_world.proofs.Told.{few_kept}
use Rattle.braid_world.proofs.Fine.{none_bad_copy, as_kept}
use Rattle.braid_world.proofs.replica_calls.kept_replica.Goals as goal

pub of-requires : goal.of-requires
of-requires c = record { counted = few_kept c.args.side.now.kept_confirmed c.args.side.now.kept_unsent c.in_ok-confirmed.confirmed.items c.in_ok-unsent.unsent.items c.requires.kept (c.in_ok-confirmed.ensures.ok ∙ c.get.ensures.value) (c.in_ok-unsent.ensures.ok ∙ c.get-2.ensures.value) }

pub unreachable-requires : goal.unreachable-requires
unreachable-requires c = none_bad_copy c.args.side.now.kept_confirmed c.args.side.now.kept_unsent c.in_ok-confirmed.confirmed.items c.in_ok-unsent.unsent.items c.in-Err-Entry.field-0-0 c.requires.kept (c.in_ok-confirmed.ensures.ok ∙ c.get.ensures.value) (c.in_ok-unsent.ensures.ok ∙ c.get-2.ensures.value)
    (subst (λ (f : BadReplica). IsBadReplica c.in_ok-confirmed.confirmed.items c.in_ok-unsent.unsent.items f) c.in-Err-Entry.field-0-is c.in-Err-Entry.ensures.fault)

pub returns-in-Ok : goal.returns-in-Ok
returns-in-Ok c = record { ok = as_kept c.args.side.now c.in-Ok.replica c.in_ok-agent.agent c.in_ok-confirmed.confirmed.items c.in_ok-unsent.unsent.items c.in-Ok.ensures.ok c.in_ok-agent.ensures.ok (c.in_ok-confirmed.ensures.ok ∙ c.get.ensures.value) (c.in_ok-unsent.ensures.ok ∙ c.get-2.ensures.value) }
