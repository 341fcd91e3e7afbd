use Rattle.std.proofs.Common.{◌≡◌, ◌+◌, List, ◌++◌, length, take, sym, ap, subst, ◌∙◌, arith, length-append}
use Rattle.braid_spans.specs.declared.run.Run.{Run}
use Rattle.braid_spans.specs.Kept.{IsHeldAt}
use Rattle.braid_spans.specs.Blocks.{flat}
use Rattle.braid_spans.proofs.InBlocks.{at_hand, before_within, flat_more}
use Rattle.braid_spans.proofs.Finding.{held_within, held_flat, held_neither}
use Rattle.braid_spans.proofs.runs.find_in.Goals as goal

pub overflow_add-result : goal.overflow_add-result
overflow_add-result c =
    let bs = c.args.blocks.now in
    let i = c.loop-block.block-index in
    let l = held_within c.runs-runs.result.now c.args.at c.in-Some.index c.in-Some.ensures.found in
    let n : length c.runs-runs.result.now ≡ length c.block-item.result = ap length c.runs-runs.ensures.value in
    omega (arith, l, n, c.runs-runs.ensures.few, c.loop-block.invariant.before, before_within bs i, c.requires.few)

pub returns-in-Some-clause-found : goal.returns-in-Some-clause-found
returns-in-Some-clause-found c =
    let bs = c.args.blocks.now in
    let i = c.loop-block.block-index in
    held_flat bs c.args.at i c.in-Some.index c.loop-block.before c.block-item.result (at_hand bs i c.block-item.result c.loop-block-test.true c.block-item.is) c.loop-block.invariant.before
    (subst (λ (t : List Run). IsHeldAt t c.args.at c.in-Some.index) c.runs-runs.ensures.value c.in-Some.ensures.found)

pub overflow_add-before : goal.overflow_add-before
overflow_add-before c =
    let bs = c.args.blocks.now in
    let i = c.loop-block.block-index in
    let n : length c.runs-runs.result.now ≡ length c.block-item.result = ap length c.runs-runs.ensures.value in
    omega (arith, n, c.runs-runs.ensures.few, c.loop-block.invariant.before, before_within bs i, c.requires.few)

pub loop-block-preserved : goal.loop-block-preserved
loop-block-preserved c =
    let bs = c.args.blocks.now in
    let i = c.loop-block.block-index in
    let b = c.block-item.result in
    let more : flat (take (i + 1) bs) ≡ flat (take i bs) ++ b = flat_more bs i b (at_hand bs i b c.loop-block-test.true c.block-item.is) in
    let n : length c.runs-runs.result.now ≡ length b = ap length c.runs-runs.ensures.value in
    let m : length (flat (take (i + 1) bs)) ≡ length (flat (take i bs)) + length b = ap length more ∙ length-append (flat (take i bs)) b in
    record {
      before = omega (arith, n, m, c.loop-block.invariant.before);
      none = λ k h. held_neither (flat (take i bs)) b c.args.at k (subst (λ (t : List Run). IsHeldAt t c.args.at k) more h) c.loop-block.invariant.none
          (λ j g. c.in-None.ensures.none j (subst (λ (t : List Run). IsHeldAt t c.args.at j) (sym c.runs-runs.ensures.value) g));
    }
