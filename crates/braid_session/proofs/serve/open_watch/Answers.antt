use Rattle.std.proofs.lemmas.Result.{err_from_is_err_and}
use Rattle.braid_session.specs.Orders.{serving_now}
use Rattle.braid_session.proofs.Turns.{no_memory}
use Rattle.braid_session.proofs.Opening.{not_opened, replied_unheld, text_of_unheld}
use Rattle.braid_session.proofs.serve.open_watch.Goals as goal

pub returns-in_err-head-in-Begins-clause-err : goal.returns-in_err-head-in-Begins-clause-err
returns-in_err-head-in-Begins-clause-err g c =
    let q = err_from_is_err_and c.from_residual-in_err-head-in-Begins.result c.from_residual-in_err-head-in-Begins.ensures.1 in
    no_memory _ q.0 _ q.1 q.2
    (λ bell. not_opened serving_now c.args.request.now c.args.from.now _ c.args.pass.now _ c.args.marks.now.items _ bell c.requires.means c.in_ok-current.ensures.ok)

pub returns-in_err-reply-in-Unheld-clause-err : goal.returns-in_err-reply-in-Unheld-clause-err
returns-in_err-reply-in-Unheld-clause-err g c =
    let q = err_from_is_err_and c.from_residual-in_err-reply-in-Unheld.result c.from_residual-in_err-reply-in-Unheld.ensures.1 in
    no_memory _ q.0 _ q.1 q.2
    (λ bell. not_opened serving_now c.args.request.now c.args.from.now _ c.args.pass.now _ c.args.marks.now.items _ bell c.requires.means c.in_ok-current.ensures.ok)

pub returns-in_err-bytes_of-in-Unheld-clause-err : goal.returns-in_err-bytes_of-in-Unheld-clause-err
returns-in_err-bytes_of-in-Unheld-clause-err g c =
    let q = err_from_is_err_and c.from_residual-in_err-bytes_of-in-Unheld.result c.from_residual-in_err-bytes_of-in-Unheld.ensures.1 in
    no_memory _ q.0 _ q.1 q.2
    (λ bell. not_opened serving_now c.args.request.now c.args.from.now _ c.args.pass.now _ c.args.marks.now.items _ bell c.requires.means c.in_ok-current.ensures.ok)

pub returns-in_ok-bytes_of-in-Unheld-clause-ok : goal.returns-in_ok-bytes_of-in-Unheld-clause-ok
returns-in_ok-bytes_of-in-Unheld-clause-ok g c = λ bell.
    replied_unheld serving_now c.args.request.now c.args.from.now c.in-Unheld.id c.in_ok-bytes_of-in-Unheld.field-0 c.args.pass.now _ c.args.marks.now.items _ bell c.requires.means
    (rw c.in-Unheld.is at c.in_ok-current.ensures.ok)
    (text_of_unheld c.in_ok-bytes_of-in-Unheld.field-0 c.args.request.now.close c.in_ok-reply-in-Unheld.reply _ c.in-Unheld.id c.in_ok-bytes_of-in-Unheld.ensures.ok
    c.in_ok-reply-in-Unheld.ensures.ok c.in-Unheld.id-is)
