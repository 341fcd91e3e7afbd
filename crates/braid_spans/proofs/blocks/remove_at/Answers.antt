use Rattle.std.proofs.Common.{◌≡◌, ◌<◌, List, length, ap, arith}
use Rattle.std.specs.List.{remove}
use Rattle.std.proofs.lemmas.List.Edits.{length-remove}
use Rattle.braid_spans.specs.declared.run.Run.{Run}
use Rattle.braid_spans.proofs.InBlocks.{read_block, sum_there, out_within, list_remove, list_get, sums_set, sum_remove, weight_set}
use Rattle.braid_spans.proofs.blocks.remove_at.Goals as goal

pub overflow_sub-sum-2 : goal.overflow_sub-sum-2
overflow_sub-sum-2 c =
    let bs = c.args.blocks.now.items in
    let s = c.args.spot.block in
    let k = c.args.spot.index in
    let b = c.index_mut.result.now in
    let there = read_block bs s k b c.index_mut.ensures.value (λ (t : List Run). k < length t) c.requires.there in
    out_within b k c.remove-old.result c.index_mut-sum.result.now c.undeleted-out.result (sum_there bs c.args.sums.now.items s b c.index_mut-sum.result.now c.requires.sums there.0 c.index_mut-sum.ensures.value) c.remove-old.ensures.old c.undeleted-out.ensures.value

pub returns-clause-list : goal.returns-clause-list
returns-clause-list c = list_remove c.args.blocks.now.items c.args.spot.block c.args.spot.index c.index_mut.result.now c.index_mut.ensures.value c.remove-old.new.self c.requires.there c.remove-old.ensures.list

pub returns-clause-old : goal.returns-clause-old
returns-clause-old c = list_get c.args.blocks.now.items c.args.spot.block c.args.spot.index c.index_mut.result.now c.index_mut.ensures.value c.remove-old.result c.requires.there c.remove-old.ensures.old

pub returns-clause-sums : goal.returns-clause-sums
returns-clause-sums c =
    let bs = c.args.blocks.now.items in
    let s = c.args.spot.block in
    let k = c.args.spot.index in
    let b = c.index_mut.result.now in
    let m = c.index_mut-sum.result.now in
    let there = read_block bs s k b c.index_mut.ensures.value (λ (t : List Run). k < length t) c.requires.there in
    sums_set bs c.args.sums.now.items s c.remove-old.new.self _ c.requires.sums
    (sum_remove b c.remove-old.new.self k c.remove-old.result m c.undeleted-out.result (sum_there bs c.args.sums.now.items s b m c.requires.sums there.0 c.index_mut-sum.ensures.value) c.remove-old.ensures.old c.remove-old.ensures.list c.undeleted-out.ensures.value)

pub returns-clause-weight : goal.returns-clause-weight
returns-clause-weight c =
    let bs = c.args.blocks.now.items in
    let s = c.args.spot.block in
    let k = c.args.spot.index in
    let b = c.index_mut.result.now in
    let there = read_block bs s k b c.index_mut.ensures.value (λ (t : List Run). k < length t) c.requires.there in
    let n : length c.remove-old.new.self ≡ length (remove b k) = ap length c.remove-old.ensures.list in
    omega (arith, n, length-remove b k there.1, weight_set bs s b c.remove-old.new.self there.0)
