use Rattle.std.proofs.Common.{length, is_ok, inl, inr, arith}
use Rattle.std.proofs.lemmas.Result.{err_from_is_err_and}
use Rattle.braid_session.proofs.Turns.{pushed, no_memory}
use Rattle.braid_session.proofs.Looking.{looked, stayed_same, stayed_room, stayed_worn, leaves_as_found}
use Rattle.braid_session.proofs.watch.first_turn.Goals as goal

pub returns-in_err-reserve-clause-err : goal.returns-in_err-reserve-clause-err
returns-in_err-reserve-clause-err g c =
    let q = err_from_is_err_and c.from_residual.result c.from_residual.ensures.1 in
    no_memory _ q.0 _ q.1 q.2 (inl (stayed_same c.args.pass.now c.reserve.new.self _ c.requires.idle c.in_err-reserve.ensures.err))

pub returns-in_default-clause-err : goal.returns-in_default-clause-err
returns-in_default-clause-err g c = inl (stayed_room c.args.pass.now c.reserve.new.self _ _ _ c.requires.idle c.in_ok-reserve.ensures.ok c.in_default.ensures.items)

pub returns-in_default-enter-clause-err : goal.returns-in_default-enter-clause-err
returns-in_default-enter-clause-err g c = (
  stayed_worn c.args.pass.now c.reserve.new.self c.enter.new.pass _ _ _ c.requires.idle c.in_ok-reserve.ensures.ok c.in_default-enter.ensures.worn c.reserve-2.ensures.items,
  c.in_default-enter.ensures.worn.late,
)

pub leave-requires-clause-book : goal.leave-requires-clause-book
leave-requires-clause-book g c = leaves_as_found c.reserve.new.self c.enter.new.pass c.in-Held.book c.in-Held.ensures.held

pub returns-in-Ok-begun-clause-ok : goal.returns-in-Ok-begun-clause-ok
returns-in-Ok-begun-clause-ok g c =
    let roomy = c.in-Ok.ensures.ok in
    let turn = looked c.args.pass.now c.reserve.new.self c.enter.new.pass c.leave.new.pass _ c.in-Held.book _ _ c.len-mark.ensures.legal c.in_ok-reserve.ensures.ok c.in-Held.ensures.held c.leave.ensures.left
    (pushed c.args.marks.now.items c.reserve-2.new.self.items c.push-kept.new.self.items c.len-mark.result (length c.in-Held.book) (is_ok c.push-kept.result)
    c.reserve-2.ensures.items c.push-kept.ensures.items (c.push-kept.ensures.succeeds (omega (arith, roomy))) c.len-mark.ensures.count) in
    record { book = c.in-Held.book; looked = turn; finds = c.in-Ok-begun.ensures.ok }

pub returns-in-Err-Id-clause-ok : goal.returns-in-Err-Id-clause-ok
returns-in-Err-Id-clause-ok g c =
    let roomy = c.in-Ok.ensures.ok in
    let turn = looked c.args.pass.now c.reserve.new.self c.enter.new.pass c.leave.new.pass _ c.in-Held.book _ _ c.len-mark.ensures.legal c.in_ok-reserve.ensures.ok c.in-Held.ensures.held c.leave.ensures.left
    (pushed c.args.marks.now.items c.reserve-2.new.self.items c.push-kept.new.self.items c.len-mark.result (length c.in-Held.book) (is_ok c.push-kept.result)
    c.reserve-2.ensures.items c.push-kept.ensures.items (c.push-kept.ensures.succeeds (omega (arith, roomy))) c.len-mark.ensures.count) in
    record { book = c.in-Held.book; looked = turn; finds = rw c.in-Err-Id.field-0-is at c.in-Err-Id.ensures.err }

pub returns-in-Err-Memory-clause-err : goal.returns-in-Err-Memory-clause-err
returns-in-Err-Memory-clause-err g c =
    let roomy = c.in-Ok.ensures.ok in
    let turn = looked c.args.pass.now c.reserve.new.self c.enter.new.pass c.leave.new.pass _ c.in-Held.book _ _ c.len-mark.ensures.legal c.in_ok-reserve.ensures.ok c.in-Held.ensures.held c.leave.ensures.left
    (pushed c.args.marks.now.items c.reserve-2.new.self.items c.push-kept.new.self.items c.len-mark.result (length c.in-Held.book) (is_ok c.push-kept.result)
    c.reserve-2.ensures.items c.push-kept.ensures.items (c.push-kept.ensures.succeeds (omega (arith, roomy))) c.len-mark.ensures.count) in
    inr (c.in-Held.book, turn)
