use Rattle.std.proofs.Common.{sym}
use Rattle.std.proofs.lemmas.Result.{err_from_is_err_and}
use Rattle.braid_fields.proofs.ContentRows.{reason_passed, patch_first, patch_second, patch_third, patch_overlap, patch_planned}
use Rattle.braid_fields.proofs.patch.plan_of.Goals as goal

pub returns-in_err-check_fields : goal.returns-in_err-check_fields
returns-in_err-check_fields c =
    let q = err_from_is_err_and c.from_residual.result c.from_residual.ensures.1 in
    record { plan = reason_passed _ _ q.0 c.in_err-check_fields.field-0.0 q.1 q.2 (patch_first c.args.used c.args.before c.args.fields.now _ _ c.in_err-check_fields.ensures.rows) }

pub returns-in_err-len : goal.returns-in_err-len
returns-in_err-len c =
    let q = err_from_is_err_and c.from_residual-in_err-len.result c.from_residual-in_err-len.ensures.1 in
    record { plan = reason_passed _ _ q.0 c.in_err-len.field-0.0 q.1 q.2 (patch_second c.args.used c.args.before c.args.fields.now _ _ _ c.in_ok-check_fields.ensures.rows c.in_err-len.ensures.len) }

pub returns-in_err-range : goal.returns-in_err-range
returns-in_err-range c =
    let q = err_from_is_err_and c.from_residual-in_err-range.result c.from_residual-in_err-range.ensures.1 in
    record { plan = reason_passed _ _ q.0 c.in_err-range.field-0.0 q.1 q.2 (patch_third c.args.used c.args.before c.args.fields.now _ _ _ _ c.in_ok-check_fields.ensures.rows c.in_ok-len.ensures.len c.in_err-range.ensures.range) }

pub returns-then-range-before : goal.returns-then-range-before
returns-then-range-before c =
    record { plan = sym (patch_overlap c.args.used c.args.before c.args.fields.now _ _ _ c.in_ok-range.range c.in_ok-check_fields.ensures.rows c.in_ok-len.ensures.len c.in_ok-range.ensures.range c.if-range-before.true) }

pub returns : goal.returns
returns c =
    record { plan = sym (patch_planned c.args.used c.args.before c.args.fields.now _ c.in_ok-len.len c.in_ok-range.range c.in_ok-check_fields.ensures.rows c.in_ok-len.ensures.len c.in_ok-range.ensures.range c.if-range-before.false) }
