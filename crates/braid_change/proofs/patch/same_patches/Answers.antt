use Rattle.std.proofs.Common.{arith, refl}
use Rattle.braid_change.proofs.Alike.{same_more}
use Rattle.braid_change.proofs.patch.same_patches.Goals as goal

pub loop-n-preserved : goal.loop-n-preserved
loop-n-preserved c = same_more _ _ _ _ _ (omega arith) (omega arith) c.index-patches-n.is c.index-others-n.is (c.if-not-same.ensures.same.0 refl) c.loop-n.invariant
