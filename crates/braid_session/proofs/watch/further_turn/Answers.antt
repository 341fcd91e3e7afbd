use Rattle.std.proofs.Common.{ℕ, length, is_ok, inl, inr, ap, subst, ◌∙◌, arith}
use Rattle.std.proofs.lemmas.Result.{err_from_is_err_and}
use Rattle.braid_hall.specs.Histories.{IsPrefix}
use Rattle.braid_hall.specs.Passes.{PassView}
use Rattle.braid_store.specs.declared.entry.Entry.{Entry}
use Rattle.braid_session.proofs.Turns.{pushed, no_memory}
use Rattle.braid_session.proofs.Gathering.{fits_begun}
use Rattle.braid_session.proofs.Looking.{looked, stayed_same, stayed_room, stayed_worn, leaves_as_found}
use Rattle.braid_session.proofs.watch.further_turn.Goals as goal

pub returns-in_err-reserve-clause-err : goal.returns-in_err-reserve-clause-err
returns-in_err-reserve-clause-err g c =
    let q = err_from_is_err_and c.from_residual.result c.from_residual.ensures.1 in
    no_memory _ q.0 _ q.1 q.2 (inl (stayed_same c.args.pass.now c.reserve.new.self _ c.requires.idle c.in_err-reserve.ensures.err))

pub returns-in_default-clause-err : goal.returns-in_default-clause-err
returns-in_default-clause-err g c = inl (stayed_room c.args.pass.now c.reserve.new.self _ _ _ c.requires.idle c.in_ok-reserve.ensures.ok c.in_default.ensures.items)

pub returns-in_default-enter-clause-err : goal.returns-in_default-enter-clause-err
returns-in_default-enter-clause-err g c = (
  stayed_worn c.args.pass.now c.reserve.new.self c.enter.new.pass _ _ _ c.requires.idle c.in_ok-reserve.ensures.ok c.in_default-enter.ensures.worn c.reserve-2.ensures.items,
  c.in_default-enter.ensures.worn.late,
)

pub leave-requires-clause-book : goal.leave-requires-clause-book
leave-requires-clause-book g c = leaves_as_found c.reserve.new.self c.enter.new.pass c.in-Held.book c.in-Held.ensures.held

pub gather-updates-requires : goal.gather-updates-requires
gather-updates-requires g c = record {
  fits = fits_begun c.args.pass.now.seen c.in-Held.book c.args.cursor.now
      (subst (λ (w : PassView Entry). IsPrefix w.seen c.in-Held.book) c.in_ok-reserve.ensures.ok c.in-Held.ensures.held.begins) c.len-mark.ensures.legal c.requires.fits;
}

pub returns-in-Ok-updates-clause-ok : goal.returns-in-Ok-updates-clause-ok
returns-in-Ok-updates-clause-ok g c =
    let roomy = c.in-Ok.ensures.ok in
    let turn = looked c.args.pass.now c.reserve.new.self c.enter.new.pass c.leave.new.pass _ c.in-Held.book _ _ c.len-mark.ensures.legal c.in_ok-reserve.ensures.ok c.in-Held.ensures.held c.leave.ensures.left
    (pushed c.args.marks.now.items c.reserve-2.new.self.items c.push-kept.new.self.items c.len-mark.result (length c.in-Held.book) (is_ok c.push-kept.result)
    c.reserve-2.ensures.items c.push-kept.ensures.items (c.push-kept.ensures.succeeds (omega (arith, roomy))) c.len-mark.ensures.count) in
    record {
      book = c.in-Held.book;
      looked = turn;
      updates = c.in-Ok-updates.ensures.ok;
      cursor = c.in-Ok-updates.ensures.kept ∙ ap (λ (k : ℕ). record c.args.cursor.now { passed = k }) c.in-Ok-updates.ensures.passed;
      fits = c.in-Ok-updates.ensures.fits;
    }

pub returns-in-Err-clause-err : goal.returns-in-Err-clause-err
returns-in-Err-clause-err g c =
    let roomy = c.in-Ok.ensures.ok in
    let turn = looked c.args.pass.now c.reserve.new.self c.enter.new.pass c.leave.new.pass _ c.in-Held.book _ _ c.len-mark.ensures.legal c.in_ok-reserve.ensures.ok c.in-Held.ensures.held c.leave.ensures.left
    (pushed c.args.marks.now.items c.reserve-2.new.self.items c.push-kept.new.self.items c.len-mark.result (length c.in-Held.book) (is_ok c.push-kept.result)
    c.reserve-2.ensures.items c.push-kept.ensures.items (c.push-kept.ensures.succeeds (omega (arith, roomy))) c.len-mark.ensures.count) in
    inr (c.in-Held.book, turn)
