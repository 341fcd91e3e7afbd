use Rattle.std.proofs.Common.{◌≡◌, ◌<◌, ◌^◌, ◌∙◌, List, Some, length, slice_get, sym, ap, subst, arith}
use Rattle.braid_spans.specs.declared.run.Run.{Run}
use Rattle.braid_spans.specs.Kept.{RunsView}
use Rattle.braid_spans.specs.Blocks.{flat}
use Rattle.braid_spans.proofs.KeptBlocks.{few_runs}
use Rattle.braid_spans.proofs.InBlocks.{count_sums, read_block, spot_within, list_get}
use Rattle.braid_spans.proofs.runs.Runs.get.Goals as goal

pub spot_of-spot-requires : goal.spot_of-spot-requires
spot_of-spot-requires c =
    let bs = c.self.inside.blocks.items in
    let n = count_sums bs c.deref.result.now (c.deref.ensures.value ∙ c.self.invariant.sums_are) in
    let v : length (flat bs) ≡ length c.args.self.now.list = ap (λ (v : RunsView). length v.list) c.self.view_is in
    record { within = omega (arith, n, v, c.requires.within) }

pub index-requires : goal.index-requires
index-requires c =
    let bs = c.self.inside.blocks.items in
    let k = c.spot_of-spot.result.index in
    omega (arith, spot_within bs c.spot_of-spot.result.block (λ (b : List Run). k < length b) (c.spot_of-spot.ensures.spot bs (c.deref.ensures.value ∙ c.self.invariant.sums_are)))

pub get-requires : goal.get-requires
get-requires c =
    let bs = c.self.inside.blocks.items in
    let k = c.spot_of-spot.result.index in
    let there = read_block bs c.spot_of-spot.result.block k c.index.result.now c.index.ensures (λ (b : List Run). k < length b) (c.spot_of-spot.ensures.spot bs (c.deref.ensures.value ∙ c.self.invariant.sums_are)) in
    record { within = there.1 }

pub returns-clause-value : goal.returns-clause-value
returns-clause-value c =
    let bs = c.self.inside.blocks.items in
    let s = c.spot_of-spot.result.block in
    let k = c.spot_of-spot.result.index in
    let is = c.deref.ensures.value ∙ c.self.invariant.sums_are in
    let e = list_get bs s k c.index.result.now c.index.ensures c.get.result (c.spot_of-spot.ensures.spot bs is) c.get.ensures.value in
    subst (λ (v : RunsView). slice_get v.list c.args.i ≡ Some c.get.result) c.self.view_is (ap (slice_get (flat bs)) (sym (c.spot_of-spot.ensures.number bs is)) ∙ e)

pub returns-clause-few : goal.returns-clause-few
returns-clause-few c = subst (λ (v : RunsView). length v.list < 2 ^ 32) c.self.view_is (few_runs c.self.inside.blocks.items c.self.inside.undeleted c.self.invariant.counted)
