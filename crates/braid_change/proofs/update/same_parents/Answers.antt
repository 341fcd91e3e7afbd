use Rattle.braid_change.proofs.Alike.{same_more_got, same_numbers}
use Rattle.braid_change.proofs.update.same_parents.Goals as goal

pub loop-n-preserved : goal.loop-n-preserved
loop-n-preserved c = same_more_got _ _ _ _ _ c.in-Some-Some.ensures.value c.in-Some-Some.ensures'.value (same_numbers _ _ c.if-ne.ensures) c.loop-n.invariant
