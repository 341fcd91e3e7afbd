use Rattle.std.proofs.lemmas.Result.{err_from_is_err_and}
use Rattle.braid_state.proofs.Stopped.{stop_weaker}
use Rattle.braid_state.proofs.BodyRead.{bad_second, bad_end, whole_body}
use Rattle.braid_state.proofs.body.read_body.Goals as goal

pub returns-in_err-unsent-clause-stop : goal.returns-in_err-unsent-clause-stop
returns-in_err-unsent-clause-stop c =
    let p = err_from_is_err_and c.from_residual-in_err-unsent.result c.from_residual-in_err-unsent.ensures.1 in
    let first = c.in_ok-confirmed.ensures.ok in
    rw (p.1, p.2) (stop_weaker c.in_err-unsent.field-0.0 _ _ (λ left k. bad_second c.in_ok-confirmed.confirmed.items c.args.confirmed c.args.unsent c.in_ok-confirmed.rest.now left c.args.bytes.now first.0 first.1 k) c.in_err-unsent.ensures.stop)

pub returns-in_err-read_tail-clause-stop : goal.returns-in_err-read_tail-clause-stop
returns-in_err-read_tail-clause-stop c =
    let p = err_from_is_err_and c.from_residual-in_err-read_tail.result c.from_residual-in_err-read_tail.ensures.1 in
    let first = c.in_ok-confirmed.ensures.ok in
    let second = c.in_ok-unsent.ensures.ok in
    rw (p.1, p.2) (stop_weaker c.in_err-read_tail.field-0.0 _ _
    (λ left k. bad_end c.in_ok-confirmed.confirmed.items c.in_ok-unsent.unsent.items c.args.confirmed c.args.unsent c.in_ok-confirmed.rest.now c.in_ok-unsent.rest.now left c.args.bytes.now first.0 second.0 first.1 second.1 k)
    c.in_err-read_tail.ensures.stop)

pub returns-clause-ok : goal.returns-clause-ok
returns-clause-ok c =
    let k = c.in_ok-read_tail.ensures.ok in
    (k.0, k.1, whole_body c.in_ok-confirmed.confirmed.items c.in_ok-unsent.unsent.items k.0 c.in_ok-confirmed.rest.now c.in_ok-unsent.rest.now c.args.bytes.now c.in_ok-confirmed.ensures.ok.1 c.in_ok-unsent.ensures.ok.1 k.2)
