use Rattle.std.proofs.Common.{◌≡◌, take}
use Rattle.braid_spans.specs.Blocks.{runs_in}
use Rattle.braid_spans.proofs.sum.count_runs.Given as goal

abbrev pub invariant-loop-sum : goal.invariant-loop-sum
invariant-loop-sum l = l.count ≡ runs_in (take l.sum-index l.sums)
