use Rattle.std.proofs.Common.{◌≡◌, take}
use Rattle.braid_outbox.specs.Writes.{merges_of, with_unsent}
use Rattle.braid_outbox.proofs.replica.Replica.add_merges.Given as goal

abbrev pub invariant-loop-n : goal.invariant-loop-n
invariant-loop-n l = l.self ≡ with_unsent l.fn.self (take l.n (merges_of l.fn.self))
