use Rattle.std.proofs.Common.{◌≡◌, ◌+◌, ◌∙◌, List, take, drop, map, length, slice_get, sym, ap, arith}
use Rattle.std.proofs.Math.ListN.{set}
use Rattle.std.specs.List.{insert}
use Rattle.std.proofs.lemmas.List.{length-set}
use Rattle.braid_spans.specs.declared.run.Run.{Run}
use Rattle.braid_spans.specs.Kept.{undeleted_in}
use Rattle.braid_spans.specs.Blocks.{sum_of}
use Rattle.braid_spans.proofs.Lists.{some_and}
use Rattle.braid_spans.proofs.InBlocks.{got, get_set, read_block, undeleted_part, front_below, rest_below, spot_within, sums_long, sums_cut}
use Rattle.braid_spans.proofs.blocks.cut_block.Goals as goal

pub sum_up-front_sum-requires : goal.sum_up-front_sum-requires
sum_up-front_sum-requires c =
    let bs = c.args.blocks.now.items in
    let s = c.args.block in
    let b = c.index_mut.result.now in
    let l = spot_within bs s (λ (t : List Run). length t ≡ 256) c.requires.full in
    let there = read_block bs s 0 b c.index_mut.ensures.value (λ (t : List Run). length t ≡ 256) c.requires.full in
    let e : undeleted_in c.runs.result.now ≡ undeleted_in (take 128 b) = ap undeleted_in (c.runs.ensures.value ∙ got (set bs s c.cut-rest.new.self) s c.cut-rest.new.self c.index.result.now (get_set bs s c.cut-rest.new.self l) c.index.ensures ∙ c.cut-rest.ensures.front) in
    record { few = omega (arith, e, front_below b, undeleted_part bs s b there.0, c.requires.few) }

pub sum_up-rest_sum-requires : goal.sum_up-rest_sum-requires
sum_up-rest_sum-requires c =
    let bs = c.args.blocks.now.items in
    let s = c.args.block in
    let b = c.index_mut.result.now in
    let there = read_block bs s 0 b c.index_mut.ensures.value (λ (t : List Run). length t ≡ 256) c.requires.full in
    let e : undeleted_in c.runs-2.result.now ≡ undeleted_in (drop 128 b) = ap undeleted_in (c.runs-2.ensures.value ∙ c.cut-rest.ensures.rest) in
    record { few = omega (arith, e, rest_below b, undeleted_part bs s b there.0, c.requires.few) }

pub index_mut-requires-2 : goal.index_mut-requires-2
index_mut-requires-2 c = omega (arith, spot_within c.args.blocks.now.items c.args.block (λ (b : List Run). length b ≡ 256) c.requires.full, sums_long c.args.blocks.now.items c.args.sums.now.items c.requires.sums)

pub overflow_add-block : goal.overflow_add-block
overflow_add-block c = omega (arith, spot_within c.args.blocks.now.items c.args.block (λ (b : List Run). length b ≡ 256) c.requires.full)

pub overflow_add-block-2 : goal.overflow_add-block-2
overflow_add-block-2 c = omega (arith, spot_within c.args.blocks.now.items c.args.block (λ (b : List Run). length b ≡ 256) c.requires.full)

pub put_sum-requires-clause-within : goal.put_sum-requires-clause-within
put_sum-requires-clause-within c =
    let n : length (set c.args.sums.now.items c.args.block c.sum_up-front_sum.result) ≡ length c.args.sums.now.items = length-set c.args.sums.now.items c.args.block c.sum_up-front_sum.result in
    omega (arith, n, spot_within c.args.blocks.now.items c.args.block (λ (b : List Run). length b ≡ 256) c.requires.full, sums_long c.args.blocks.now.items c.args.sums.now.items c.requires.sums)

pub put_block-requires-clause-within : goal.put_block-requires-clause-within
put_block-requires-clause-within c =
    let n : length (set c.args.blocks.now.items c.args.block c.cut-rest.new.self) ≡ length c.args.blocks.now.items = length-set c.args.blocks.now.items c.args.block c.cut-rest.new.self in
    omega (arith, n, spot_within c.args.blocks.now.items c.args.block (λ (b : List Run). length b ≡ 256) c.requires.full)

pub returns-clause-list : goal.returns-clause-list
returns-clause-list c =
    let bs = c.args.blocks.now.items in
    let s = c.args.block in
    let b = c.index_mut.result.now in
    let there = read_block bs s 0 b c.index_mut.ensures.value (λ (t : List Run). length t ≡ 256) c.requires.full in
    some_and (λ (t : List Run). c.put_block.new.blocks.items ≡ insert (set bs s (take 128 t)) (s + 1) (drop 128 t)) (slice_get bs s) b there.0
    (c.put_block.ensures.list ∙ ap (λ (t : List Run). insert (set bs s t) (s + 1) c.cut-rest.result) c.cut-rest.ensures.front ∙ ap (λ (t : List Run). insert (set bs s (take 128 b)) (s + 1) t) c.cut-rest.ensures.rest)

pub returns-clause-sums : goal.returns-clause-sums
returns-clause-sums c =
    let bs = c.args.blocks.now.items in
    let s = c.args.block in
    let l = spot_within bs s (λ (t : List Run). length t ≡ 256) c.requires.full in
    c.put_sum.ensures.list
    ∙ sums_cut bs c.args.sums.now.items s c.cut-rest.new.self c.cut-rest.result c.sum_up-front_sum.result c.sum_up-rest_sum.result c.requires.sums
    (c.sum_up-front_sum.ensures.value ∙ ap sum_of (c.runs.ensures.value ∙ got (set bs s c.cut-rest.new.self) s c.cut-rest.new.self c.index.result.now (get_set bs s c.cut-rest.new.self l) c.index.ensures))
    (c.sum_up-rest_sum.ensures.value ∙ ap sum_of c.runs-2.ensures.value)
    ∙ ap (map sum_of) (sym c.put_block.ensures.list)
