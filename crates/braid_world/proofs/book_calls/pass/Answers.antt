use Rattle.std.proofs.Common.{◌≡◌, ℕ, subst, arith}
use Rattle.braid_world.proofs.Nth.{HasPassed, passed_none, passed_next, passed_all}
use Rattle.braid_world.proofs.book_calls.pass.Goals as goal

pub loop-init : goal.loop-init
loop-init c = passed_none c.args.book.now c.args.cursor.now c.requires.fits

pub loop-preserved : goal.loop-preserved
loop-preserved c = passed_next c.args.book.now c.args.cursor.now c.loop.cursor c.next_for.new.cursor c.loop.counter c.in-Some.field-0.now c.loop.invariant c.in-Some.ensures.next c.next_for.ensures.kept c.next_for.ensures.fits

pub returns-in_default : goal.returns-in_default
returns-in_default c =
    let l = c.loop-test.true in
    let p = passed_all c.args.book.now c.args.cursor.now c.loop.cursor c.next_for.new.cursor c.loop.counter c.args.count c.loop.invariant c.in_default.ensures.next c.next_for.ensures.kept c.next_for.ensures.fits (omega (arith, l)) in
    record { left = p.left; kept = p.kept; fits = p.fits }

pub returns : goal.returns
returns c =
    let f = c.loop-test.false in
    let g = c.loop.auto.counter-end in
    let e : c.loop.counter ≡ c.args.count = omega (arith, f, g) in
    let p = subst (λ (k : ℕ). HasPassed c.args.book.now c.args.cursor.now k c.loop.cursor) e c.loop.invariant in
    record { left = p.left; kept = p.kept; fits = p.fits }
