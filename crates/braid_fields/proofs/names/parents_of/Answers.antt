use Rattle.std.proofs.Common.{arith}
use Rattle.std.proofs.lemmas.Result.{err_from_is_err_and}
use Rattle.braid_fields.proofs.Planned.{set_read, few_parents, many_parents, parents_fault, passed}
use Rattle.braid_fields.proofs.names.parents_of.Goals as goal

pub returns-in_err-parents : goal.returns-in_err-parents
returns-in_err-parents c =
    let q = err_from_is_err_and c.from_residual.result c.from_residual.ensures.1 in
    record { parents = passed _ _ q.0 c.in_err-parents.field-0.0 q.1 q.2 (parents_fault c.args.strings.now c.in_err-parents.field-0.0 c.in_err-parents.ensures.set) }

pub returns-then-len-gt-MOST_PARENTS : goal.returns-then-len-gt-MOST_PARENTS
returns-then-len-gt-MOST_PARENTS c =
    record { parents = many_parents c.args.strings.now c.in_ok-parents.parents (set_read c.args.strings.now c.in_ok-parents.parents c.in_ok-parents.ensures.set) (omega (arith, c.len.ensures.len, c.if-len-gt-MOST_PARENTS.true)) }

pub returns : goal.returns
returns c =
    record { parents = few_parents c.args.strings.now c.in_ok-parents.parents (set_read c.args.strings.now c.in_ok-parents.parents c.in_ok-parents.ensures.set) (omega (arith, c.len.ensures.len, c.if-len-gt-MOST_PARENTS.false)) }
