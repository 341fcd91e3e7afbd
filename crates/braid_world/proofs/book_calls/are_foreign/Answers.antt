use Rattle.std.proofs.Common.{refl}
use Rattle.braid_world.proofs.Nth.{foreign_step, foreign_not, foreign_all}
use Rattle.braid_world.proofs.book_calls.are_foreign.Goals as goal

pub loop-side-init : goal.loop-side-init
loop-side-init c = refl

pub loop-side-preserved : goal.loop-side-preserved
loop-side-preserved c = foreign_step c.args.id.now c.args.sides.now c.loop-side.side-index c.side-item.result c.number.result c.loop-side-test.true c.side-item.is c.number.ensures.number c.in_default.is c.loop-side.invariant

pub returns-in-Some : goal.returns-in-Some
returns-in-Some c = record { foreign = foreign_not c.args.id.now c.args.sides.now c.loop-side.side-index c.side-item.result c.number.result c.in-Some.field-0 c.loop-side-test.true c.side-item.is c.number.ensures.number c.in-Some.is }

pub returns : goal.returns
returns c = record { foreign = foreign_all c.args.id.now c.args.sides.now c.loop-side.side-index c.loop-side-test.false c.loop-side.invariant }
