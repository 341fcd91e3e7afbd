use Rattle.std.proofs.Common.{◌≡◌, length}
use Rattle.braid_drill.specs.Told.{IsFree}
use Rattle.braid_drill.proofs.drill.play_rounds.Given as goal

abbrev pub invariant-loop-round : goal.invariant-loop-round
invariant-loop-round g l = record { four : length l.replicas ≡ 4; free : IsFree l.dialer.line }
