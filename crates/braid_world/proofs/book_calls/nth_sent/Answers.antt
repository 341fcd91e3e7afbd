use Rattle.std.proofs.Common.{ap, ◌∙◌, Some}
use Rattle.braid_world.proofs.Nth.{given_some, given_none}
use Rattle.braid_world.proofs.book_calls.nth_sent.Goals as goal

pub pass-requires : goal.pass-requires
pass-requires c = record { fits = c.in-Ok.ensures.fits }

pub next_for-requires : goal.next_for-requires
next_for-requires c = record { fits = c.pass.ensures.fits }

pub returns-in_default-next_for : goal.returns-in_default-next_for
returns-in_default-next_for c = record { ok = given_none c.args.book.now c.args.path.now c.args.from.now c.in-Ok.cursor c.pass.new.cursor c.args.position c.next_for.new.cursor.passed c.in-Ok.ensures.path c.in-Ok.ensures.from c.in-Ok.ensures.passed c.pass.ensures.left c.pass.ensures.kept c.in_default-next_for.ensures.next }

pub returns : goal.returns
returns c = record { ok = ap Some c.in_ok-copy.ensures.ok ∙ given_some c.args.book.now c.args.path.now c.args.from.now c.in-Ok.cursor c.pass.new.cursor c.args.position c.next_for.new.cursor.passed c.in-Some.update.now c.in-Ok.ensures.path c.in-Ok.ensures.from c.in-Ok.ensures.passed c.pass.ensures.left c.pass.ensures.kept c.in-Some.ensures.next }
