use Rattle.std.proofs.Common.{◌∙◌, drop, ap}
use Rattle.std.proofs.lemmas.List.{take_rest}
use Rattle.braid_spans.proofs.block.Block.cut.Goals as goal

pub returns-clause-rest : goal.returns-clause-rest
returns-clause-rest c = c.block_of-rest.ensures.list ∙ take_rest c.as_slice.result.now 128 ∙ ap (drop 128) (c.as_slice.ensures.value ∙ c.self.view_is)
