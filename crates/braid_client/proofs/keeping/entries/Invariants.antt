use Rattle.std.proofs.Common.{◌≡◌, take, drop}
use Rattle.braid_outbox.specs.Replicas.{all_of}
use Rattle.braid_client.proofs.keeping.entries.Given as goal

abbrev pub invariant-loop-n : goal.invariant-loop-n
invariant-loop-n l = l.list.items ≡ drop l.fn.from (take l.n (all_of l.replica))
