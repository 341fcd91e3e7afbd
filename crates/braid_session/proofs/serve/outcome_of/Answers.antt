use Rattle.std.proofs.lemmas.Result.{err_from_is_err_and}
use Rattle.braid_session.specs.Orders.{serving_now}
use Rattle.braid_session.proofs.Turns.{no_memory}
use Rattle.braid_session.proofs.Replying.{wanted_short, writable_answer, replied_turn, replied_denial, text_of_denial, not_replied_idle}
use Rattle.braid_session.proofs.serve.outcome_of.Goals as goal

pub take_turn-requires-clause-short : goal.take_turn-requires-clause-short
take_turn-requires-clause-short g c = λ κs outlives. wanted_short serving_now c.args.request.now c.in-Ok.wish c.in-Ok.ensures.ok

pub bytes_of-requires : goal.bytes_of-requires
bytes_of-requires g c =
    let t = c.in_ok-reply-in-Ok.ensures.ok in
    record { writable = writable_answer t.book c.args.pass.now.number c.args.request.now.target c.in-Ok.wish c.in_ok-reply-in-Ok.reply t.entries t.answers }

pub returns-in_ok-bytes_of-in-Ok-clause-ok : goal.returns-in_ok-bytes_of-in-Ok-clause-ok
returns-in_ok-bytes_of-in-Ok-clause-ok g c =
    replied_turn serving_now c.args.request.now c.in-Ok.wish c.in_ok-reply-in-Ok.reply c.in_ok-bytes_of-in-Ok.field-0 _ _ _ _ _ _ c.in-Ok.ensures.ok c.in_ok-reply-in-Ok.ensures.ok c.in_ok-bytes_of-in-Ok.ensures.ok

pub returns-in_err-reply-in-Err-Denied-clause-err : goal.returns-in_err-reply-in-Err-Denied-clause-err
returns-in_err-reply-in-Err-Denied-clause-err g c =
    let q = err_from_is_err_and c.from_residual-in_err-reply-in-Err-Denied.result c.from_residual-in_err-reply-in-Err-Denied.ensures.1 in
    no_memory _ q.0 _ q.1 q.2 (not_replied_idle serving_now c.args.request.now c.args.pass.now _ _ c.requires.idle)

pub returns-in_err-bytes_of-in-Err-Denied-clause-err : goal.returns-in_err-bytes_of-in-Err-Denied-clause-err
returns-in_err-bytes_of-in-Err-Denied-clause-err g c =
    let q = err_from_is_err_and c.from_residual-in_err-bytes_of-in-Err-Denied.result c.from_residual-in_err-bytes_of-in-Err-Denied.ensures.1 in
    no_memory _ q.0 _ q.1 q.2 (not_replied_idle serving_now c.args.request.now c.args.pass.now _ _ c.requires.idle)

pub returns-in_ok-bytes_of-in-Err-Denied-clause-ok : goal.returns-in_ok-bytes_of-in-Err-Denied-clause-ok
returns-in_ok-bytes_of-in-Err-Denied-clause-ok g c =
    replied_denial serving_now c.args.request.now c.in-Err-Denied.denial c.in_ok-bytes_of-in-Err-Denied.field-0 c.args.pass.now _ _ c.requires.idle
    (rw c.in-Err-Denied.field-0-is at c.in-Err-Denied.ensures.err)
    (text_of_denial c.in_ok-bytes_of-in-Err-Denied.field-0 c.args.request.now.close c.in_ok-reply-in-Err-Denied.reply c.in-Err-Denied.denial _ c.in_ok-bytes_of-in-Err-Denied.ensures.ok c.in_ok-reply-in-Err-Denied.ensures.ok c.in-Err-Denied.denial-is)

pub returns-in-Err-Memory-clause-err : goal.returns-in-Err-Memory-clause-err
returns-in-Err-Memory-clause-err g c = not_replied_idle serving_now c.args.request.now c.args.pass.now _ _ c.requires.idle
