use Rattle.std.proofs.Common.{◌<◌, List, length, arith}
use Rattle.braid_spans.specs.declared.run.Run.{Run}
use Rattle.braid_spans.proofs.InBlocks.{read_block, sum_there, out_within, added_within, list_set, list_get, sums_set, sum_set}
use Rattle.braid_spans.proofs.blocks.set_at.Goals as goal

pub overflow_sub-sum : goal.overflow_sub-sum
overflow_sub-sum c =
    let bs = c.args.blocks.now.items in
    let s = c.args.spot.block in
    let k = c.args.spot.index in
    let b = c.index_mut.result.now in
    let there = read_block bs s k b c.index_mut.ensures.value (λ (t : List Run). k < length t) c.requires.there in
    out_within b k c.set-old.result c.index_mut-sum.result.now c.undeleted-out.result (sum_there bs c.args.sums.now.items s b c.index_mut-sum.result.now c.requires.sums there.0 c.index_mut-sum.ensures.value) c.set-old.ensures.old c.undeleted-out.ensures.value

pub overflow_add-sum : goal.overflow_add-sum
overflow_add-sum c =
    let bs = c.args.blocks.now.items in
    let s = c.args.spot.block in
    let k = c.args.spot.index in
    let b = c.index_mut.result.now in
    let there = read_block bs s k b c.index_mut.ensures.value (λ (t : List Run). k < length t) c.requires.there in
    let few = added_within bs s k b c.set-old.result c.args.run c.index_mut-sum.result.now c.undeleted-out.result c.undeleted-added.result there.0
    (sum_there bs c.args.sums.now.items s b c.index_mut-sum.result.now c.requires.sums there.0 c.index_mut-sum.ensures.value) c.set-old.ensures.old c.undeleted-out.ensures.value c.undeleted-added.ensures.value c.requires.few in
    omega (arith, few)

pub returns-clause-list : goal.returns-clause-list
returns-clause-list c = list_set c.args.blocks.now.items c.args.spot.block c.args.spot.index c.index_mut.result.now c.index_mut.ensures.value c.args.run c.set-old.new.self c.requires.there c.set-old.ensures.list

pub returns-clause-old : goal.returns-clause-old
returns-clause-old c = list_get c.args.blocks.now.items c.args.spot.block c.args.spot.index c.index_mut.result.now c.index_mut.ensures.value c.set-old.result c.requires.there c.set-old.ensures.old

pub returns-clause-sums : goal.returns-clause-sums
returns-clause-sums c =
    let bs = c.args.blocks.now.items in
    let s = c.args.spot.block in
    let k = c.args.spot.index in
    let b = c.index_mut.result.now in
    let m = c.index_mut-sum.result.now in
    let there = read_block bs s k b c.index_mut.ensures.value (λ (t : List Run). k < length t) c.requires.there in
    sums_set bs c.args.sums.now.items s c.set-old.new.self _ c.requires.sums
    (sum_set b c.set-old.new.self k c.set-old.result c.args.run m c.undeleted-out.result c.undeleted-added.result (sum_there bs c.args.sums.now.items s b m c.requires.sums there.0 c.index_mut-sum.ensures.value) c.set-old.ensures.old c.set-old.ensures.list c.undeleted-out.ensures.value c.undeleted-added.ensures.value)
