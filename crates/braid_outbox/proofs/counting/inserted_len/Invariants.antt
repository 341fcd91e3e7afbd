use Rattle.std.proofs.Common.{◌≡◌, ◌-◌, ◌^◌, min, take}
use Rattle.braid_change.specs.Splices.{inserted}
use Rattle.braid_outbox.proofs.counting.inserted_len.Given as goal

abbrev pub invariant-loop-patch : goal.invariant-loop-patch
invariant-loop-patch l = l.len ≡ min (inserted (take l.patch-index l.patches)) (2 ^ 64 - 1)
