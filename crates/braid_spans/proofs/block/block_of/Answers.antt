use Rattle.std.proofs.Common.{◌++◌, ◌∙◌, ap}
use Rattle.braid_spans.proofs.block.block_of.Goals as goal

pub returns : goal.returns
returns c = record { list = c.in-Ok.ensures.ok ∙ ap (λ t. t ++ c.args.runs.now) c.new-items.ensures }
