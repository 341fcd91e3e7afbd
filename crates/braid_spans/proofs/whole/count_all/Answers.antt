use Rattle.std.proofs.Common.{◌≡◌, ◌≤◌, ◌∙◌, All, length, sym, ap, subst, arith}
use Rattle.braid_spans.specs.declared.run.Run.{Run}
use Rattle.braid_spans.specs.Blocks.{flat}
use Rattle.braid_spans.specs.Kept.{chains_of, size_in, reach}
use Rattle.braid_spans.specs.SeenRuns.{seen_count}
use Rattle.braid_spans.proofs.SeenSteps.{count_within}
use Rattle.braid_spans.proofs.InBlocks.{at_hand, all_block, size_block}
use Rattle.braid_spans.proofs.SeenBlocks.{count_head}
use Rattle.braid_spans.proofs.whole.count_all.Goals as goal

pub count_visible-count-requires-clause-within : goal.count_visible-count-requires-clause-within
count_visible-count-requires-clause-within c =
    let bs = c.args.blocks.now in
    let b = c.block-item.result in
    let P = λ (r : Run). reach r.newest ≤ length c.args.links.now in
    subst (All P) (sym c.runs.ensures.value) (all_block P bs c.loop-block.block-index b (at_hand bs c.loop-block.block-index b c.loop-block-test.true c.block-item.is) c.requires.within)

pub count_visible-count-requires-clause-few : goal.count_visible-count-requires-clause-few
count_visible-count-requires-clause-few c =
    let bs = c.args.blocks.now in
    let b = c.block-item.result in
    let s = size_block bs c.loop-block.block-index b (at_hand bs c.loop-block.block-index b c.loop-block-test.true c.block-item.is) in
    let e : size_in c.runs.result.now ≡ size_in b = ap size_in c.runs.ensures.value in
    omega (arith, s, e, c.requires.few)

pub overflow_add-count : goal.overflow_add-count
overflow_add-count c =
    let bs = c.args.blocks.now in
    let b = c.block-item.result in
    let marks = c.args.marks.now in
    let chains = chains_of c.args.links.now in
    let h = count_head marks chains bs c.loop-block.block-index b (at_hand bs c.loop-block.block-index b c.loop-block-test.true c.block-item.is) in
    let e : c.count_visible-count.result ≡ seen_count marks chains b = c.count_visible-count.ensures.count ∙ ap (seen_count marks chains) c.runs.ensures.value in
    omega (arith, h, e, count_within marks chains (flat bs), c.loop-block.invariant, c.requires.few)

pub loop-block-preserved : goal.loop-block-preserved
loop-block-preserved c =
    let bs = c.args.blocks.now in
    let b = c.block-item.result in
    let marks = c.args.marks.now in
    let chains = chains_of c.args.links.now in
    let h = count_head marks chains bs c.loop-block.block-index b (at_hand bs c.loop-block.block-index b c.loop-block-test.true c.block-item.is) in
    let e : c.count_visible-count.result ≡ seen_count marks chains b = c.count_visible-count.ensures.count ∙ ap (seen_count marks chains) c.runs.ensures.value in
    omega (arith, h, e, c.loop-block.invariant)
