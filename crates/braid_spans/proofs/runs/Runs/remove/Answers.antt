use Rattle.std.proofs.Common.{◌≡◌, ◌+◌, ◌∙◌, length, slice_get, sym, ap, arith}
use Rattle.std.specs.List.{remove}
use Rattle.std.proofs.lemmas.Option.{slice_get_within}
use Rattle.braid_spans.specs.Kept.{RunsView}
use Rattle.braid_spans.specs.Blocks.{flat, before}
use Rattle.braid_spans.proofs.KeptBlocks.{blocks_remove}
use Rattle.braid_spans.proofs.InBlocks.{count_sums, undeleted_item}
use Rattle.braid_spans.proofs.runs.Runs.remove.Goals as goal

pub spot_of-spot-requires : goal.spot_of-spot-requires
spot_of-spot-requires c =
    let bs = c.self.inside.blocks.items in
    let n = count_sums bs c.deref.result.now (c.deref.ensures.value ∙ c.self.invariant.sums_are) in
    let v : length (flat bs) ≡ length c.args.self.now.list = ap (λ (v : RunsView). length v.list) c.self.view_is in
    record { within = omega (arith, n, v, c.requires.within) }

pub remove_at-old-requires-clause-there : goal.remove_at-old-requires-clause-there
remove_at-old-requires-clause-there c = c.spot_of-spot.ensures.spot c.self.inside.blocks.items (c.deref.ensures.value ∙ c.self.invariant.sums_are)

pub overflow_sub-self : goal.overflow_sub-self
overflow_sub-self c =
    let v : length (flat c.self.inside.blocks.items) ≡ length c.args.self.now.list = ap (λ (v : RunsView). length v.list) c.self.view_is in
    omega (arith, v, c.requires.within, c.self.invariant.count_is)

pub overflow_sub-self-2 : goal.overflow_sub-self-2
overflow_sub-self-2 c =
    let bs = c.self.inside.blocks.items in
    let i = before bs c.spot_of-spot.result.block + c.spot_of-spot.result.index in
    let out = undeleted_item (flat bs) i c.remove_at-old.result c.remove_at-old.ensures.old (slice_get_within (flat bs) i c.remove_at-old.result c.remove_at-old.ensures.old) in
    omega (arith, out, c.undeleted-out.ensures.value, c.self.invariant.counted.undeleted)

pub invariant_of-self : goal.invariant_of-self
invariant_of-self c =
    let in' = c.self.inside in
    let bs = in'.blocks.items in
    let at = c.spot_of-spot.ensures.number bs (c.deref.ensures.value ∙ c.self.invariant.sums_are) in
    let new = c.remove_at-old.new.blocks.items in
    blocks_remove bs new in'.sums.items c.remove_at-old.new.sums.items in'.count in'.undeleted in'.room _ _ _ _ c.self.invariant c.remove_at-old.ensures.sums (c.remove_at-old.ensures.small c.self.invariant.small)
    (omega (arith, c.remove_at-old.ensures.capacity)) (omega (arith, c.remove_at-old.ensures.sums_capacity)) c.args.i c.undeleted-out.result c.remove_at-old.result
    (c.remove_at-old.ensures.list ∙ ap (remove (flat bs)) at) (ap (slice_get (flat bs)) (sym at) ∙ c.remove_at-old.ensures.old) c.undeleted-out.ensures.value c.remove_at-old.ensures.weight c.remove_at-old.ensures.len

pub returns-clause-list : goal.returns-clause-list
returns-clause-list c =
    let bs = c.self.inside.blocks.items in
    let at = c.spot_of-spot.ensures.number bs (c.deref.ensures.value ∙ c.self.invariant.sums_are) in
    c.remove_at-old.ensures.list ∙ ap (remove (flat bs)) at ∙ ap (λ (v : RunsView). remove v.list c.args.i) c.self.view_is
