use Rattle.std.proofs.Common.{◌≡◌, length}
use Rattle.braid_drill.specs.Told.{IsFree}
use Rattle.braid_drill.proofs.drill.sync_all.Given as goal

abbrev pub invariant-loop-n : goal.invariant-loop-n
invariant-loop-n g l = record { four : length l.replicas ≡ 4; free : IsFree l.dialer.line }
