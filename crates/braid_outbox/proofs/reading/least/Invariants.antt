use Rattle.std.proofs.Common.{◌≡◌, ◌≤◌, take}
use Rattle.braid_outbox.proofs.reading.least.Given as goal

abbrev pub invariant-loop-n : goal.invariant-loop-n
invariant-loop-n l = (l.ids.items ≡ take l.n l.of) × (l.n ≤ 32)
