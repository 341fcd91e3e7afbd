use Rattle.std.proofs.Common.{arith}
use Rattle.braid_change.proofs.Past.{walk_begins}
use Rattle.braid_change.proofs.splices.find_past.Goals as goal

pub loop-patch-init : goal.loop-patch-init
loop-patch-init c = record { walks = walk_begins _ _ _ c.in-Some.ensures.value c.requires.listed; count = omega arith }
