use Rattle.std.proofs.lemmas.Result.{err_from_is_err_and}
use Rattle.braid_change.proofs.Built.{built_faultless}
use Rattle.braid_grammar.proofs.Puts.{put_refused, whole_is_built}
use Rattle.braid_grammar.proofs.put.read_put.Goals as goal

pub returns-in_err-change : goal.returns-in_err-change
returns-in_err-change c =
    let q = err_from_is_err_and c.from_residual-in_err-change.result c.from_residual-in_err-change.ensures.1 in
    record { put = put_refused c.args.parts.now c.args.body.now c.in_ok-plan.plan c.in_err-change.field-0.0 q.0 c.from_residual-in_err-change.result c.in_ok-plan.ensures.plan c.in_err-change.ensures.content q.1 q.2 }

pub unreachable-requires : goal.unreachable-requires
unreachable-requires c =
    built_faultless c.in_ok-plan.plan.parents c.in_ok-change.change c.in_default.field-0
    (whole_is_built c.args.parts.now c.args.body.now c.in_ok-plan.plan c.in_ok-change.change c.in_ok-plan.ensures.plan c.in_ok-change.ensures.content)
    c.in_default.ensures.fault
