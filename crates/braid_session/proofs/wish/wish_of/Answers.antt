use Rattle.std.proofs.Common.{◌≡◌, true, false, sym, ◌∙◌}
use Rattle.std.proofs.lemmas.Result.{err_from_is_err_and}
use Rattle.braid_session.specs.Orders.{is_get}
use Rattle.braid_session.proofs.Judging.{denied_any, denied_form, denied_if, get_wanted, get_denied, put_wanted, put_denied}
use Rattle.braid_session.proofs.wish.wish_of.Goals as goal

pub returns-in_err-judge_any-clause-err : goal.returns-in_err-judge_any-clause-err
returns-in_err-judge_any-clause-err c =
    let r = err_from_is_err_and c.from_residual.result c.from_residual.ensures.1 in
    let fault = c.in_err-judge_any.field-0.0 in
    denied_if c.args.serving c.args.request.now c.from_residual.result r.0 fault r.1 r.2 (denied_any c.args.serving c.args.request.now fault c.in_err-judge_any.ensures.rows)

pub returns-in_err-judge_get-clause-err : goal.returns-in_err-judge_get-clause-err
returns-in_err-judge_get-clause-err c =
    let r = err_from_is_err_and c.from_residual-in_err-judge_get.result c.from_residual-in_err-judge_get.ensures.1 in
    let fault = c.in_err-judge_get.field-0.0 in
    let got : is_get c.args.request.now ≡ true = sym c.is_get.ensures.value ∙ c.if-is_get.true in
    denied_if c.args.serving c.args.request.now c.from_residual-in_err-judge_get.result r.0 fault r.1 r.2
    (denied_form c.args.serving c.args.request.now fault c.in_ok-judge_any.ensures.rows got c.in_err-judge_get.ensures.rows)

pub returns-in_ok-judge_get-clause-ok : goal.returns-in_ok-judge_get-clause-ok
returns-in_ok-judge_get-clause-ok c =
    let got : is_get c.args.request.now ≡ true = sym c.is_get.ensures.value ∙ c.if-is_get.true in
    get_wanted c.args.serving c.args.request.now c.wish_of_get.result c.in_ok-judge_any.ensures.rows got c.in_ok-judge_get.ensures.rows c.wish_of_get.ensures.wants

pub returns-in_ok-judge_get-clause-err : goal.returns-in_ok-judge_get-clause-err
returns-in_ok-judge_get-clause-err c =
    let got : is_get c.args.request.now ≡ true = sym c.is_get.ensures.value ∙ c.if-is_get.true in
    get_denied c.args.serving c.args.request.now c.wish_of_get.result c.in_ok-judge_any.ensures.rows got c.in_ok-judge_get.ensures.rows c.wish_of_get.ensures.wants

pub returns-else-is_get-clause-ok : goal.returns-else-is_get-clause-ok
returns-else-is_get-clause-ok c =
    let other : is_get c.args.request.now ≡ false = sym c.is_get.ensures.value ∙ c.if-is_get.false in
    put_wanted c.args.serving c.args.request.now c.wish_of_put.result c.in_ok-judge_any.ensures.rows other c.wish_of_put.ensures.wants

pub returns-else-is_get-clause-err : goal.returns-else-is_get-clause-err
returns-else-is_get-clause-err c =
    let other : is_get c.args.request.now ≡ false = sym c.is_get.ensures.value ∙ c.if-is_get.false in
    put_denied c.args.serving c.args.request.now c.wish_of_put.result c.in_ok-judge_any.ensures.rows other c.wish_of_put.ensures.wants
