use Rattle.std.proofs.lemmas.Result.{err_from_is_err_and}
use Rattle.braid_state.proofs.Stopped.{stop_weaker}
use Rattle.braid_state.proofs.BodyRead.{bad_behind}
use Rattle.braid_state.proofs.reading.read_parts.Goals as goal

pub returns-in_err-body-clause-stop : goal.returns-in_err-body-clause-stop
returns-in_err-body-clause-stop c =
    let p = err_from_is_err_and c.from_residual-in_err-body.result c.from_residual-in_err-body.ensures.1 in
    let h = c.in_ok-head.ensures.ok in
    rw (p.1, p.2) (stop_weaker c.in_err-body.field-0.0 _ _ (λ left k. bad_behind c.in_ok-head.head left c.in_ok-head.rest.now c.args.bytes.now h.0 h.1 k) c.in_err-body.ensures.stop)
