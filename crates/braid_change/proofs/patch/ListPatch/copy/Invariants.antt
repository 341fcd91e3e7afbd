use Rattle.std.proofs.Common.{◌≡◌, take}
use Rattle.braid_change.proofs.patch.ListPatch.copy.Given as goal

abbrev pub invariant-loop-patch : goal.invariant-loop-patch
invariant-loop-patch l = l.items.items ≡ take l.patch-index l.patch-items
