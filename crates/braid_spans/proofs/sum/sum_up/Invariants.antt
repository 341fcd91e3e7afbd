use Rattle.std.proofs.Common.{◌≡◌, take}
use Rattle.braid_spans.specs.Kept.{undeleted_in}
use Rattle.braid_spans.proofs.sum.sum_up.Given as goal

abbrev pub invariant-loop-run : goal.invariant-loop-run
invariant-loop-run l = l.undeleted ≡ undeleted_in (take l.run-index l.runs)
