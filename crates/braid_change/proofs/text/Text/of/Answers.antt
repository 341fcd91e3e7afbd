use Rattle.braid_change.proofs.Lengths.{scalars_more}
use Rattle.braid_change.proofs.text.Text.of.Goals as goal

pub loop-c-preserved : goal.loop-c-preserved
loop-c-preserved c = scalars_more _ _ _ c.loop-c-test.true c.c-item.is c.loop-c.invariant c.is_scalar.ensures.scalar
