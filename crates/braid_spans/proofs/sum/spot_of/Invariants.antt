use Rattle.std.proofs.Common.{◌≡◌, ◌+◌, take}
use Rattle.braid_spans.specs.Blocks.{runs_in}
use Rattle.braid_spans.proofs.sum.spot_of.Given as goal

-- the runs of the blocks passed and those left are the number sought
abbrev pub invariant-loop-block : goal.invariant-loop-block
invariant-loop-block l = runs_in (take l.block l.sums) + l.index ≡ l.fn.i
