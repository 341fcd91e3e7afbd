use Rattle.std.proofs.Common.{◌+◌, ◌≤◌, All, length, sym, subst}
use Rattle.braid_spans.specs.declared.run.Run.{Run}
use Rattle.braid_spans.specs.Kept.{reach}
use Rattle.braid_spans.proofs.InBlocks.{at_hand, all_block}
use Rattle.braid_spans.proofs.whole.push_chars.Goals as goal

pub push_text-requires-clause-within : goal.push_text-requires-clause-within
push_text-requires-clause-within c =
    let bs = c.args.blocks.now in
    let b = c.block-item.result in
    let P = λ (r : Run). reach r.newest ≤ length c.args.links.now in
    subst (All P) (sym c.runs.ensures.value) (all_block P bs c.loop-block.block-index b (at_hand bs c.loop-block.block-index b c.loop-block-test.true c.block-item.is) c.requires.within)

pub push_text-requires-clause-chars : goal.push_text-requires-clause-chars
push_text-requires-clause-chars c =
    let bs = c.args.blocks.now in
    let b = c.block-item.result in
    let P = λ (r : Run). r.start + r.len ≤ length c.args.chars.now in
    subst (All P) (sym c.runs.ensures.value) (all_block P bs c.loop-block.block-index b (at_hand bs c.loop-block.block-index b c.loop-block-test.true c.block-item.is) c.requires.chars)
