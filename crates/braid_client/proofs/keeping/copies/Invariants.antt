use Rattle.std.proofs.Common.{◌≡◌, take}
use Rattle.braid_client.proofs.keeping.copies.Given as goal

abbrev pub invariant-loop-update : goal.invariant-loop-update
invariant-loop-update l = l.copies.items ≡ take l.update-index l.updates
