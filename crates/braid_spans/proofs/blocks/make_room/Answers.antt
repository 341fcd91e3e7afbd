use Rattle.std.proofs.Common.{◌≡◌, ◌<◌, ◌≤◌, List, length, slice_get, arith}
use Rattle.braid_spans.specs.declared.run.Run.{Run}
use Rattle.braid_spans.specs.Blocks.{IsFilled}
use Rattle.braid_spans.proofs.Lists.{some_and, all_got}
use Rattle.braid_spans.proofs.InBlocks.{read_block, weight_at, sums_long}
use Rattle.braid_spans.proofs.blocks.make_room.Goals as goal

pub split-requires-clause-full : goal.split-requires-clause-full
split-requires-clause-full c =
    let bs = c.args.blocks.now.items in
    let s = c.args.spot.block in
    let b = c.index.result.now in
    let there = read_block bs s 0 b c.index.ensures (λ (t : List Run). c.args.spot.index ≤ length t) c.requires.there in
    let small : length b ≤ 256 = all_got IsFilled bs s b c.requires.small there.0 in
    some_and (λ (t : List Run). length t ≡ 256) (slice_get bs s) b there.0 (omega (arith, small, c.is_full.ensures.full c.if-is_full.true))

pub split-requires-clause-spare : goal.split-requires-clause-spare
split-requires-clause-spare c =
    let bs = c.args.blocks.now.items in
    let s = c.args.spot.block in
    let b = c.index.result.now in
    let there = read_block bs s 0 b c.index.ensures (λ (t : List Run). c.args.spot.index ≤ length t) c.requires.there in
    omega (arith, weight_at bs s b there.0, c.is_full.ensures.full c.if-is_full.true, c.requires.spare)

pub split-requires-clause-spare_sums : goal.split-requires-clause-spare_sums
split-requires-clause-spare_sums c =
    let bs = c.args.blocks.now.items in
    let s = c.args.spot.block in
    let b = c.index.result.now in
    let there = read_block bs s 0 b c.index.ensures (λ (t : List Run). c.args.spot.index ≤ length t) c.requires.there in
    omega (arith, weight_at bs s b there.0, c.is_full.ensures.full c.if-is_full.true, c.requires.spare_sums, sums_long bs c.args.sums.now.items c.requires.sums)

pub returns-clause-roomy : goal.returns-clause-roomy
returns-clause-roomy c =
    let bs = c.args.blocks.now.items in
    let s = c.args.spot.block in
    let b = c.index.result.now in
    let there = read_block bs s 0 b c.index.ensures (λ (t : List Run). c.args.spot.index ≤ length t) c.requires.there in
    some_and (λ (t : List Run). length t < 256) (slice_get bs s) b there.0 (c.is_full.ensures.roomy c.if-is_full.false)
