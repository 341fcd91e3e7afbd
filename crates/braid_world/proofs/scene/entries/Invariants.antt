use Rattle.std.proofs.Common.{◌≡◌, ◌-◌, take, drop}
use Rattle.braid_outbox.specs.Replicas.{all_of}
use Rattle.braid_world.proofs.scene.entries.Given as goal

abbrev pub invariant-loop-n : goal.invariant-loop-n
invariant-loop-n l = l.updates.items ≡ take (l.n - l.from) (drop l.from (all_of l.replica))
