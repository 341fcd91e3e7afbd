use Rattle.std.proofs.Common.{◌≡◌, ◌+◌, ◌≤◌, ◌<◌, List, length, ap, arith, ◌∙◌}
use Rattle.std.proofs.lemmas.List.Elements.{All-set}
use Rattle.std.proofs.lemmas.List.Edits.{length-insert}
use Rattle.braid_spans.specs.declared.run.Run.{Run}
use Rattle.braid_spans.specs.declared.sum.Sum.{Sum}
use Rattle.braid_spans.specs.Kept.{undeleted_in}
use Rattle.braid_spans.specs.Blocks.{IsFilled}
use Rattle.braid_spans.proofs.Sizes.{undeleted_one}
use Rattle.braid_spans.proofs.InBlocks.{read_block, sum_there, undeleted_part, list_insert, sums_set, sum_insert}
use Rattle.braid_spans.proofs.blocks.insert_at.Goals as goal

pub overflow_add-sum-2 : goal.overflow_add-sum-2
overflow_add-sum-2 c =
    let bs = c.args.blocks.now.items in
    let s = c.args.spot.block in
    let k = c.args.spot.index in
    let b = c.index_mut.result.now in
    let there = read_block bs s k b c.index_mut.ensures.value (λ (t : List Run). k ≤ length t) c.requires.there in
    let u : c.index_mut-sum.result.now.undeleted ≡ undeleted_in b = ap (λ (t : Sum). t.undeleted) (sum_there bs c.args.sums.now.items s b c.index_mut-sum.result.now c.requires.sums there.0 c.index_mut-sum.ensures.value) in
    omega (arith, u, undeleted_part bs s b there.0, undeleted_one c.args.run, c.undeleted-added.ensures.value, c.requires.few)

pub returns-clause-list : goal.returns-clause-list
returns-clause-list c = list_insert c.args.blocks.now.items c.args.spot.block c.args.spot.index c.index_mut.result.now c.index_mut.ensures.value c.args.run c.insert.new.self c.requires.there c.insert.ensures.list

pub returns-clause-sums : goal.returns-clause-sums
returns-clause-sums c =
    let bs = c.args.blocks.now.items in
    let s = c.args.spot.block in
    let k = c.args.spot.index in
    let b = c.index_mut.result.now in
    let m = c.index_mut-sum.result.now in
    let there = read_block bs s k b c.index_mut.ensures.value (λ (t : List Run). k ≤ length t) c.requires.there in
    sums_set bs c.args.sums.now.items s c.insert.new.self _ c.requires.sums
    (sum_insert b c.insert.new.self k c.args.run m c.undeleted-added.result (sum_there bs c.args.sums.now.items s b m c.requires.sums there.0 c.index_mut-sum.ensures.value) there.1 c.insert.ensures.list c.undeleted-added.ensures.value)

pub returns-clause-small : goal.returns-clause-small
returns-clause-small c = λ all.
    (let bs = c.args.blocks.now.items in
    let s = c.args.spot.block in
    let k = c.args.spot.index in
    let b = c.index_mut.result.now in
    let there = read_block bs s k b c.index_mut.ensures.value (λ (t : List Run). k ≤ length t) c.requires.there in
    let roomy = read_block bs s k b c.index_mut.ensures.value (λ (t : List Run). length t < 256) c.requires.roomy in
    let n : length c.insert.new.self ≡ length b + 1 = ap length c.insert.ensures.list ∙ length-insert b k c.args.run there.1 in
    All-set IsFilled bs s c.insert.new.self (omega (arith, n, roomy.1)) all)
