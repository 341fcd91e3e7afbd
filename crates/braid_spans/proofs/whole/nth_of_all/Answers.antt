use Rattle.std.proofs.Common.{◌≡◌, ◌+◌, ◌<◌, ◌≤◌, ◌^◌, ◌∙◌, List, All, Some, length, slice_get, sym, subst}
use Rattle.braid_spans.specs.declared.run.Run.{Run}
use Rattle.braid_spans.specs.Kept.{chains_of, reach}
use Rattle.braid_spans.specs.SeenRuns.{seen_places, seen_count}
use Rattle.braid_spans.proofs.InBlocks.{at_hand, all_block}
use Rattle.braid_spans.proofs.SeenBlocks.{nth_here, nth_next}
use Rattle.braid_spans.proofs.whole.nth_of_all.Goals as goal

pub nth_visible-requires-clause-within : goal.nth_visible-requires-clause-within
nth_visible-requires-clause-within c =
    let bs = c.args.blocks.now in
    let b = c.block-item.result in
    let P = λ (r : Run). reach r.newest ≤ length c.args.links.now in
    subst (All P) (sym c.runs.ensures.value) (all_block P bs c.loop-block.block-index b (at_hand bs c.loop-block.block-index b c.loop-block-test.true c.block-item.is) c.requires.within)

pub nth_visible-requires-clause-ordinals : goal.nth_visible-requires-clause-ordinals
nth_visible-requires-clause-ordinals c =
    let bs = c.args.blocks.now in
    let b = c.block-item.result in
    let P = λ (r : Run). r.first.ordinal + r.len < 2 ^ 32 in
    subst (All P) (sym c.runs.ensures.value) (all_block P bs c.loop-block.block-index b (at_hand bs c.loop-block.block-index b c.loop-block-test.true c.block-item.is) c.requires.ordinals)

pub returns-in-Ok : goal.returns-in-Ok
returns-in-Ok c =
    let bs = c.args.blocks.now in
    let b = c.block-item.result in
    let marks = c.args.marks.now in
    let chains = chains_of c.args.links.now in
    let here = subst (λ (t : List Run). slice_get (seen_places marks chains t) c.loop-block.left ≡ Some c.in-Ok.at) c.runs.ensures.value c.in-Ok.ensures.ok in
    record { value = sym (sym c.loop-block.invariant ∙ nth_here marks chains bs c.loop-block.block-index b (at_hand bs c.loop-block.block-index b c.loop-block-test.true c.block-item.is) c.loop-block.left c.in-Ok.at here) }

pub loop-block-preserved : goal.loop-block-preserved
loop-block-preserved c =
    let bs = c.args.blocks.now in
    let b = c.block-item.result in
    let marks = c.args.marks.now in
    let chains = chains_of c.args.links.now in
    let left = subst (λ (t : List Run). seen_count marks chains t + c.in-Err.rest ≡ c.loop-block.left) c.runs.ensures.value c.in-Err.ensures.err in
    nth_next marks chains bs c.loop-block.block-index b (at_hand bs c.loop-block.block-index b c.loop-block-test.true c.block-item.is) c.loop-block.left c.in-Err.rest left ∙ c.loop-block.invariant
