use Rattle.std.proofs.Common.{length, is_ok, inl, inr, arith}
use Rattle.std.proofs.lemmas.Result.{err_from_is_err_and}
use Rattle.braid_session.proofs.Answering.{told_lacks, told_answers}
use Rattle.braid_session.proofs.Turns.{adds_one, idled_none, idled_same, idled_room, idled_worn, took_turn, turned_in_vain, pushed, rung_of, no_memory}
use Rattle.braid_session.proofs.turn.take_turn.Goals as goal

pub returns-in_err-question-clause-err : goal.returns-in_err-question-clause-err
returns-in_err-question-clause-err g c =
    let q = err_from_is_err_and c.from_residual.result c.from_residual.ensures.1 in
    no_memory _ q.0 _ q.1 q.2 (inl (idled_none c.args.pass.now _ _ c.requires.idle))

pub returns-in_err-reserve-clause-err : goal.returns-in_err-reserve-clause-err
returns-in_err-reserve-clause-err g c =
    let q = err_from_is_err_and c.from_residual-in_err-reserve.result c.from_residual-in_err-reserve.ensures.1 in
    no_memory _ q.0 _ q.1 q.2 (inl (idled_same c.args.pass.now c.reserve.new.self _ _ c.requires.idle c.in_err-reserve.ensures.err))

pub returns-in_default-clause-err : goal.returns-in_default-clause-err
returns-in_default-clause-err g c = inl (idled_room c.args.pass.now c.reserve.new.self _ _ _ _ c.requires.idle c.in_ok-reserve.ensures.ok c.in_default.ensures.items)

pub returns-in_default-enter-clause-err : goal.returns-in_default-enter-clause-err
returns-in_default-enter-clause-err g c = (
  idled_worn c.args.pass.now c.reserve.new.self c.enter.new.pass _ _ _ _ c.requires.idle c.in_ok-reserve.ensures.ok c.in_default-enter.ensures.worn c.reserve-2.ensures.items,
  c.in_default-enter.ensures.worn.late,
)

pub leave-requires-clause-book : goal.leave-requires-clause-book
leave-requires-clause-book g c =
    adds_one c.reserve.new.self c.enter.new.pass c.in-Held.book c.ask-told.new.book c.number.result c.args.path.now c.args.wish c.in-Held.ensures.held c.number.ensures.number
    (told_lacks c.in-Held.book c.ask-told.new.book c.number.result c.args.path.now c.args.wish c.in_ok-question.question c.ask-told.result c.in_ok-question.ensures.ok c.ask-told.ensures.told)

pub returns-in_err-reply-clause-err : goal.returns-in_err-reply-clause-err
returns-in_err-reply-clause-err g c =
    let q = err_from_is_err_and c.from_residual-in_err-reply.result c.from_residual-in_err-reply.ensures.1 in
    let roomy = c.in-Ok.ensures.ok in
    let noted = pushed c.args.marks.now.items c.reserve-2.new.self.items c.push-kept.new.self.items c.len-mark.result (length c.in-Held.book) (is_ok c.push-kept.result)
    c.reserve-2.ensures.items c.push-kept.ensures.items (c.push-kept.ensures.succeeds (omega (arith, roomy))) c.len-mark.ensures.count in
    no_memory _ q.0 _ q.1 q.2 (inr
    (turned_in_vain c.args.pass.now c.reserve.new.self c.enter.new.pass c.leave.new.pass _ c.number.result c.in-Held.book c.ask-told.new.book c.args.path.now c.args.wish _ _ _ _
    c.in_ok-reserve.ensures.ok c.in-Held.ensures.held c.leave.ensures.left c.number.ensures.number
    (told_lacks c.in-Held.book c.ask-told.new.book c.number.result c.args.path.now c.args.wish c.in_ok-question.question c.ask-told.result c.in_ok-question.ensures.ok c.ask-told.ensures.told)
    noted (rung_of c.len-mark.result c.len-after.result _ _ _ _ c.len-mark.ensures.count c.len-after.ensures.count c.ring_where_grew.ensures.rung)))

pub returns-clause-ok : goal.returns-clause-ok
returns-clause-ok g c =
    let roomy = c.in-Ok.ensures.ok in
    let noted = pushed c.args.marks.now.items c.reserve-2.new.self.items c.push-kept.new.self.items c.len-mark.result (length c.in-Held.book) (is_ok c.push-kept.result)
    c.reserve-2.ensures.items c.push-kept.ensures.items (c.push-kept.ensures.succeeds (omega (arith, roomy))) c.len-mark.ensures.count in
    took_turn c.args.pass.now c.reserve.new.self c.enter.new.pass c.leave.new.pass _ c.number.result c.in-Held.book c.ask-told.new.book c.args.path.now c.args.wish c.in_ok-reply.reply _ _ _ _
    c.in_ok-reserve.ensures.ok c.in-Held.ensures.held c.leave.ensures.left c.number.ensures.number
    (told_answers c.in-Held.book c.ask-told.new.book c.number.result c.args.path.now c.args.wish c.in_ok-question.question c.ask-told.result c.in_ok-reply.reply c.in_ok-question.ensures.ok c.ask-told.ensures.told c.in_ok-reply.ensures.ok)
    noted (rung_of c.len-mark.result c.len-after.result _ _ _ _ c.len-mark.ensures.count c.len-after.ensures.count c.ring_where_grew.ensures.rung)
