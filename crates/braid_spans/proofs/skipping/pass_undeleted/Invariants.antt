use Rattle.std.proofs.Common.{◌≡◌, ◌+◌, take}
use Rattle.braid_spans.specs.Blocks.{undeleted_by}
use Rattle.braid_spans.proofs.skipping.pass_undeleted.Given as goal

-- the elements of the blocks passed and those left are the number sought
abbrev pub invariant-loop-block : goal.invariant-loop-block
invariant-loop-block l = undeleted_by (take l.block l.sums) + l.left ≡ l.fn.n
