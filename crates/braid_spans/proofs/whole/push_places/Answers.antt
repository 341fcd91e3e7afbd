use Rattle.std.proofs.Common.{◌≡◌, ◌+◌, ◌-◌, ◌<◌, ◌≤◌, ◌^◌, ◌++◌, ◌∙◌, List, All, take, drop, length, sym, subst}
use Rattle.braid_spans.specs.declared.run.Run.{Run}
use Rattle.braid_spans.specs.Kept.{chains_of, reach}
use Rattle.braid_spans.specs.SeenRuns.{seen_places, seen_count}
use Rattle.braid_spans.proofs.InBlocks.{at_hand, all_block}
use Rattle.braid_spans.proofs.SeenBlocks.{piece_step}
use Rattle.braid_spans.proofs.whole.push_places.Goals as goal

pub push_visible-requires-clause-within : goal.push_visible-requires-clause-within
push_visible-requires-clause-within c =
    let bs = c.args.blocks.now in
    let b = c.block-item.result in
    let P = λ (r : Run). reach r.newest ≤ length c.args.links.now in
    subst (All P) (sym c.runs.ensures.value) (all_block P bs c.loop-block.block-index b (at_hand bs c.loop-block.block-index b c.loop-block-test.true c.block-item.is) c.requires.within)

pub push_visible-requires-clause-ordinals : goal.push_visible-requires-clause-ordinals
push_visible-requires-clause-ordinals c =
    let bs = c.args.blocks.now in
    let b = c.block-item.result in
    let P = λ (r : Run). r.first.ordinal + r.len < 2 ^ 32 in
    subst (All P) (sym c.runs.ensures.value) (all_block P bs c.loop-block.block-index b (at_hand bs c.loop-block.block-index b c.loop-block-test.true c.block-item.is) c.requires.ordinals)

pub loop-block-preserved : goal.loop-block-preserved
loop-block-preserved c =
    let bs = c.args.blocks.now in
    let b = c.block-item.result in
    let marks = c.args.marks.now in
    let chains = chains_of c.args.links.now in
    let old = c.loop-block.places.items in
    let s = c.loop-block.piece.skip in
    let t = c.loop-block.piece.take in
    let new = c.push_visible.new.places.items in
    let s' = c.push_visible.new.piece.skip in
    let t' = c.push_visible.new.piece.take in
    piece_step marks chains bs c.loop-block.block-index b (at_hand bs c.loop-block.block-index b c.loop-block-test.true c.block-item.is) old new s t s' t'
    (subst (λ (x : List Run). new ≡ old ++ take t (drop s (seen_places marks chains x))) c.runs.ensures.value c.in_ok-push_visible.ensures.ok)
    (subst (λ (x : List Run). 0 < t' → s' ≡ s - seen_count marks chains x) c.runs.ensures.value c.in_ok-push_visible.ensures.skip)
    (subst (λ (x : List Run). t' ≡ t - (seen_count marks chains x - s)) c.runs.ensures.value c.in_ok-push_visible.ensures.take)
    ∙ c.loop-block.invariant
