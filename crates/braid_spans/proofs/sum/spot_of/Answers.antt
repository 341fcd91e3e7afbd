use Rattle.braid_spans.proofs.InBlocks.{number_there}
use Rattle.braid_spans.proofs.sum.spot_of.Goals as goal

pub returns-then-index-sum-clause-number : goal.returns-then-index-sum-clause-number
returns-then-index-sum-clause-number c = λ bs e. number_there bs c.args.sums.now c.loop-block.block c.loop-block.index c.args.i e c.loop-block.invariant
