use Rattle.braid_ids.proofs.Splits.{lacks_more}
use Rattle.braid_ids.proofs.readers.split_at_byte.Goals as goal

pub loop-at-preserved : goal.loop-at-preserved
loop-at-preserved c = lacks_more _ _ _ c.loop-at-test.true c.loop-at.invariant c.if-b-byte.false
