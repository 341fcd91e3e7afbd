use Rattle.std.proofs.Common.{arith}
use Rattle.braid_outbox.proofs.Shapes.{shaped_from}
use Rattle.braid_outbox.proofs.Written.{over_room}
use Rattle.braid_outbox.proofs.replica.Replica.plan.Goals as goal

pub returns-then-merges-left-clause-fault : goal.returns-then-merges-left-clause-fault
returns-then-merges-left-clause-fault c = (((shaped_from c.args.change.now c.requires.shaped).0, c.in_ok-counts.ensures.fits), omega (arith, c.if-merges-left.true, c.merges_needed-merges.ensures.count, c.greatest_number-greatest.ensures.number))

pub returns-in-Some-clause-fault : goal.returns-in-Some-clause-fault
returns-in-Some-clause-fault c = (
  ((shaped_from c.args.change.now c.requires.shaped).0, c.in_ok-counts.ensures.fits),
  omega (arith, c.if-merges-left.false, c.merges_needed-merges.ensures.count, c.greatest_number-greatest.ensures.number),
  over_room c.args.self.now c.args.change.now _ _ _ _ c.in-Some.which c.merges_needed-merges.ensures.count c.in_ok-counts.ensures.elements c.in_ok-counts.ensures.deletions c.room-room.ensures.room c.in-Some.ensures.over,
  c.of.ensures.value,
)
