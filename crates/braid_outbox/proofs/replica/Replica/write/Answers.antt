use Rattle.std.proofs.Common.{◌≡◌, true, arith, refl, subst, ◌∙◌}
use Rattle.std.proofs.lemmas.Result.{err_from_is_err_and}
use Rattle.braid_change.specs.declared.change.Change.{Change}
use Rattle.braid_text.specs.Rooms.{replica_limits}
use Rattle.braid_outbox.specs.Writes.{IsWriteFault, is_written}
use Rattle.braid_outbox.proofs.Written.{fault_passed, any_err, on_err, numbers_fit, change_number, adds_none, adds_all}
use Rattle.braid_outbox.proofs.replica.Replica.write.Goals as goal

pub returns-in_err-plan-clause-fault : goal.returns-in_err-plan-clause-fault
returns-in_err-plan-clause-fault c =
    let q = err_from_is_err_and c.from_residual-in_err-plan.result c.from_residual-in_err-plan.ensures.1 in
    fault_passed (IsWriteFault replica_limits c.args.self.now c.args.change) c.from_residual-in_err-plan.result q.0 c.in_err-plan.field-0.0 q.1 q.2
    (subst (λ (ch : Change). IsWriteFault replica_limits c.args.self.now ch c.in_err-plan.field-0.0) (c.change.ensures.value ∙ c.in_ok-draft.ensures.ok) c.in_err-plan.ensures.fault)

pub returns-in_err-plan-clause-merged : goal.returns-in_err-plan-clause-merged
returns-in_err-plan-clause-merged c = any_err c.from_residual-in_err-plan.result (adds_none replica_limits c.args.self.now c.args.self.now c.args.change refl)

pub add_change-requires-clause-number : goal.add_change-requires-clause-number
add_change-requires-clause-number c = change_number c.args.self.now c.agent-agent.ensures.valid c.confirmed-confirmed.ensures.sound c.in_ok-plan.plan.merges c.in_ok-plan.plan.number c.in_ok-plan.ensures.merges c.in_ok-plan.ensures.number
    (let n = numbers_fit replica_limits c.args.self.now c.change.result.now c.in_ok-plan.ensures.due in omega (arith, n, c.in_ok-plan.ensures.merges, c.in_ok-plan.ensures.number))
    c.add_merges.new.self c.in-Ok.ensures.ok

pub returns-in_default-add_change-clause-merged : goal.returns-in_default-add_change-clause-merged
returns-in_default-add_change-clause-merged c = adds_all replica_limits c.args.self.now c.add_merges.new.self c.add_change.new.self c.args.change
    (subst (λ (ch : Change). is_written replica_limits c.args.self.now ch ≡ true) (c.change.ensures.value ∙ c.in_ok-draft.ensures.ok) c.in_ok-plan.ensures.due)
    c.in-Ok.ensures.ok (on_err _ c.add_change.result c.add_change.ensures.err c.in_default-add_change.not-Ok)
