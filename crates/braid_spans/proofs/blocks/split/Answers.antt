use Rattle.std.proofs.Common.{◌≡◌, ◌+◌, ◌-◌, ◌<◌, ◌≤◌, ℕ, List, length, slice_get, ap, arith}
use Rattle.braid_spans.specs.declared.run.Run.{Run}
use Rattle.braid_spans.proofs.Lists.{some_and}
use Rattle.braid_spans.proofs.InBlocks.{IsCut, cut_is, spot_below, spot_within}
use Rattle.braid_spans.proofs.blocks.split.Goals as goal

pub returns-then-spot-le128-clause-list : goal.returns-then-spot-le128-clause-list
returns-then-spot-le128-clause-list c =
    let cut : IsCut c.args.blocks.now.items c.cut_block.new.blocks.items c.args.spot.block = cut_is c.args.blocks.now.items c.cut_block.new.blocks.items c.args.spot.block c.requires.full c.cut_block.ensures.list in
    cut.same

pub returns-then-spot-le128-clause-small : goal.returns-then-spot-le128-clause-small
returns-then-spot-le128-clause-small c =
    let cut : IsCut c.args.blocks.now.items c.cut_block.new.blocks.items c.args.spot.block = cut_is c.args.blocks.now.items c.cut_block.new.blocks.items c.args.spot.block c.requires.full c.cut_block.ensures.list in
    cut.small c.requires.small

pub returns-then-spot-le128-clause-weight : goal.returns-then-spot-le128-clause-weight
returns-then-spot-le128-clause-weight c =
    let cut : IsCut c.args.blocks.now.items c.cut_block.new.blocks.items c.args.spot.block = cut_is c.args.blocks.now.items c.cut_block.new.blocks.items c.args.spot.block c.requires.full c.cut_block.ensures.list in
    cut.weight_is

pub returns-clause-list : goal.returns-clause-list
returns-clause-list c =
    let cut : IsCut c.args.blocks.now.items c.cut_block.new.blocks.items c.args.spot.block = cut_is c.args.blocks.now.items c.cut_block.new.blocks.items c.args.spot.block c.requires.full c.cut_block.ensures.list in
    cut.same

pub returns-clause-small : goal.returns-clause-small
returns-clause-small c =
    let cut : IsCut c.args.blocks.now.items c.cut_block.new.blocks.items c.args.spot.block = cut_is c.args.blocks.now.items c.cut_block.new.blocks.items c.args.spot.block c.requires.full c.cut_block.ensures.list in
    cut.small c.requires.small

pub returns-clause-weight : goal.returns-clause-weight
returns-clause-weight c =
    let cut : IsCut c.args.blocks.now.items c.cut_block.new.blocks.items c.args.spot.block = cut_is c.args.blocks.now.items c.cut_block.new.blocks.items c.args.spot.block c.requires.full c.cut_block.ensures.list in
    cut.weight_is

pub returns-then-spot-le128-clause-spot : goal.returns-then-spot-le128-clause-spot
returns-then-spot-le128-clause-spot c =
    let cut : IsCut c.args.blocks.now.items c.cut_block.new.blocks.items c.args.spot.block = cut_is c.args.blocks.now.items c.cut_block.new.blocks.items c.args.spot.block c.requires.full c.cut_block.ensures.list in
    ap (λ (n : ℕ). n + c.args.spot.index) cut.before_first

pub returns-then-spot-le128-clause-there : goal.returns-then-spot-le128-clause-there
returns-then-spot-le128-clause-there c =
    let cut : IsCut c.args.blocks.now.items c.cut_block.new.blocks.items c.args.spot.block = cut_is c.args.blocks.now.items c.cut_block.new.blocks.items c.args.spot.block c.requires.full c.cut_block.ensures.list in
    some_and (λ (b : List Run). c.args.spot.index ≤ length b) (slice_get c.cut_block.new.blocks.items c.args.spot.block) cut.first.0 cut.first.1 (omega (arith, cut.first.2, c.if-spot-le128.true))

pub returns-then-spot-le128-clause-roomy : goal.returns-then-spot-le128-clause-roomy
returns-then-spot-le128-clause-roomy c =
    let cut : IsCut c.args.blocks.now.items c.cut_block.new.blocks.items c.args.spot.block = cut_is c.args.blocks.now.items c.cut_block.new.blocks.items c.args.spot.block c.requires.full c.cut_block.ensures.list in
    some_and (λ (b : List Run). length b < 256) (slice_get c.cut_block.new.blocks.items c.args.spot.block) cut.first.0 cut.first.1 (omega (arith, cut.first.2))

pub overflow_add-result : goal.overflow_add-result
overflow_add-result c =
    let cut : IsCut c.args.blocks.now.items c.cut_block.new.blocks.items c.args.spot.block = cut_is c.args.blocks.now.items c.cut_block.new.blocks.items c.args.spot.block c.requires.full c.cut_block.ensures.list in
    omega (arith, spot_within c.args.blocks.now.items c.args.spot.block (λ (b : List Run). length b ≡ 256) c.requires.full)

pub returns-clause-spot : goal.returns-clause-spot
returns-clause-spot c =
    let cut : IsCut c.args.blocks.now.items c.cut_block.new.blocks.items c.args.spot.block = cut_is c.args.blocks.now.items c.cut_block.new.blocks.items c.args.spot.block c.requires.full c.cut_block.ensures.list in
    omega (arith, cut.before_second, c.if-spot-le128.false)

pub returns-clause-there : goal.returns-clause-there
returns-clause-there c =
    let cut : IsCut c.args.blocks.now.items c.cut_block.new.blocks.items c.args.spot.block = cut_is c.args.blocks.now.items c.cut_block.new.blocks.items c.args.spot.block c.requires.full c.cut_block.ensures.list in
    some_and (λ (b : List Run). c.args.spot.index - 128 ≤ length b) (slice_get c.cut_block.new.blocks.items (c.args.spot.block + 1)) cut.second.0 cut.second.1 (omega (arith, cut.second.2, spot_below c.args.blocks.now.items c.args.spot.block c.args.spot.index 256 c.requires.there c.requires.full))

pub returns-clause-roomy : goal.returns-clause-roomy
returns-clause-roomy c =
    let cut : IsCut c.args.blocks.now.items c.cut_block.new.blocks.items c.args.spot.block = cut_is c.args.blocks.now.items c.cut_block.new.blocks.items c.args.spot.block c.requires.full c.cut_block.ensures.list in
    some_and (λ (b : List Run). length b < 256) (slice_get c.cut_block.new.blocks.items (c.args.spot.block + 1)) cut.second.0 cut.second.1 (omega (arith, cut.second.2))
