use Rattle.std.proofs.lemmas.Result.{err_from_is_err_and}
use Rattle.braid_fields.specs.declared.plan.PlanFault.TheVariants as faults
use Rattle.braid_fields.proofs.Planned.{passed}
use Rattle.braid_fields.proofs.ContentRows.{plan_first, plan_second, plan_third, plan_made}
use Rattle.braid_fields.proofs.head.plan_of.Goals as goal

pub returns-in_err-check_fields : goal.returns-in_err-check_fields
returns-in_err-check_fields c =
    let q = err_from_is_err_and c.from_residual.result c.from_residual.ensures.1 in
    record { plan = passed _ _ q.0 (faults.Reason c.in_err-check_fields.field-0.0) q.1 q.2 (plan_first c.args.transfer c.args.given c.args.parts.now _ c.in_err-check_fields.ensures.rows) }

pub returns-in_err-id : goal.returns-in_err-id
returns-in_err-id c =
    let q = err_from_is_err_and c.from_residual-in_err-id.result c.from_residual-in_err-id.ensures.1 in
    record { plan = passed _ _ q.0 c.in_err-id.field-0.0 q.1 q.2 (plan_second c.args.transfer c.args.given c.args.parts.now _ c.in_err-id.field-0.0 c.in_ok-check_fields.ensures.rows c.in_err-id.ensures.names) }

pub returns-in_err-asks : goal.returns-in_err-asks
returns-in_err-asks c =
    let q = err_from_is_err_and c.from_residual-in_err-asks.result c.from_residual-in_err-asks.ensures.1 in
    record { plan = passed _ _ q.0 c.in_err-asks.field-0.0 q.1 q.2 (plan_third c.args.transfer c.args.given c.args.parts.now _ _ c.in_err-asks.field-0.0 c.in_ok-check_fields.ensures.rows c.in_ok-id.ensures.names c.in_err-asks.ensures.asks) }

pub returns : goal.returns
returns c = record { plan = plan_made c.args.transfer c.args.given c.args.parts.now _ _ _ _ c.in_ok-check_fields.ensures.rows c.in_ok-id.ensures.names c.in_ok-asks.ensures.asks }
