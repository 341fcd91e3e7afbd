use Rattle.std.proofs.Common.{◌≡◌, ◌+◌, ◌∙◌, ℕ, length, slice_get, sym, ap, arith}
use Rattle.std.proofs.Math.ListN.{set}
use Rattle.std.proofs.lemmas.Option.{slice_get_within}
use Rattle.braid_spans.specs.Kept.{RunsView, size_in, undeleted_in}
use Rattle.braid_spans.specs.Blocks.{flat, before}
use Rattle.braid_spans.proofs.Sizes.{undeleted_below}
use Rattle.braid_spans.proofs.KeptBlocks.{blocks_set}
use Rattle.braid_spans.proofs.InBlocks.{count_sums, undeleted_item, undeleted_at_set}
use Rattle.braid_spans.proofs.runs.Runs.set.Goals as goal

pub spot_of-spot-requires : goal.spot_of-spot-requires
spot_of-spot-requires c =
    let bs = c.self.inside.blocks.items in
    let n = count_sums bs c.deref.result.now (c.deref.ensures.value ∙ c.self.invariant.sums_are) in
    let v : length (flat bs) ≡ length c.args.self.now.list = ap (λ (v : RunsView). length v.list) c.self.view_is in
    record { within = omega (arith, n, v, c.requires.within) }

pub set_at-old-requires-clause-there : goal.set_at-old-requires-clause-there
set_at-old-requires-clause-there c = c.spot_of-spot.ensures.spot c.self.inside.blocks.items (c.deref.ensures.value ∙ c.self.invariant.sums_are)

pub set_at-old-requires-clause-few : goal.set_at-old-requires-clause-few
set_at-old-requires-clause-few c =
    let bs = c.self.inside.blocks.items in
    let at = c.spot_of-spot.ensures.number bs (c.deref.ensures.value ∙ c.self.invariant.sums_are) in
    let e : undeleted_in (set (flat bs) (before bs c.spot_of-spot.result.block + c.spot_of-spot.result.index) c.args.run) ≡ undeleted_in (set (flat bs) c.args.i c.args.run) = ap (λ (n : ℕ). undeleted_in (set (flat bs) n c.args.run)) at in
    let s : size_in (set (flat bs) c.args.i c.args.run) ≡ size_in (set c.args.self.now.list c.args.i c.args.run) = ap (λ (v : RunsView). size_in (set v.list c.args.i c.args.run)) c.self.view_is in
    omega (arith, e, s, undeleted_below (set (flat bs) c.args.i c.args.run), c.requires.few)

pub overflow_sub-self : goal.overflow_sub-self
overflow_sub-self c =
    let bs = c.self.inside.blocks.items in
    let i = before bs c.spot_of-spot.result.block + c.spot_of-spot.result.index in
    let out = undeleted_item (flat bs) i c.set_at-old.result c.set_at-old.ensures.old (slice_get_within (flat bs) i c.set_at-old.result c.set_at-old.ensures.old) in
    omega (arith, out, c.undeleted-out.ensures.value, c.self.invariant.counted.undeleted)

pub overflow_add-self : goal.overflow_add-self
overflow_add-self c =
    let bs = c.self.inside.blocks.items in
    let i = before bs c.spot_of-spot.result.block + c.spot_of-spot.result.index in
    let at = c.spot_of-spot.ensures.number bs (c.deref.ensures.value ∙ c.self.invariant.sums_are) in
    let out = undeleted_item (flat bs) i c.set_at-old.result c.set_at-old.ensures.old (slice_get_within (flat bs) i c.set_at-old.result c.set_at-old.ensures.old) in
    let n = undeleted_at_set (flat bs) i c.set_at-old.result c.args.run c.set_at-old.ensures.old in
    let e : size_in (set (flat bs) i c.args.run) ≡ size_in (set (flat bs) c.args.i c.args.run) = ap (λ (n : ℕ). size_in (set (flat bs) n c.args.run)) at in
    let s : size_in (set (flat bs) c.args.i c.args.run) ≡ size_in (set c.args.self.now.list c.args.i c.args.run) = ap (λ (v : RunsView). size_in (set v.list c.args.i c.args.run)) c.self.view_is in
    omega (arith, out, n, e, s, undeleted_below (set (flat bs) i c.args.run), c.undeleted-out.ensures.value, c.undeleted-added.ensures.value, c.self.invariant.counted.undeleted, c.requires.few)

pub invariant_of-self : goal.invariant_of-self
invariant_of-self c =
    let in' = c.self.inside in
    let bs = in'.blocks.items in
    let is = c.deref.ensures.value ∙ c.self.invariant.sums_are in
    let at = c.spot_of-spot.ensures.number bs is in
    let new = c.set_at-old.new.blocks.items in
    let s : size_in (set (flat bs) c.args.i c.args.run) ≡ size_in (set c.args.self.now.list c.args.i c.args.run) = ap (λ (v : RunsView). size_in (set v.list c.args.i c.args.run)) c.self.view_is in
    blocks_set bs new in'.sums.items c.set_at-old.new.sums.items in'.count in'.undeleted in'.room _ _ _ _ c.self.invariant c.set_at-old.ensures.sums (c.set_at-old.ensures.small c.self.invariant.small)
    (omega (arith, c.set_at-old.ensures.capacity)) (omega (arith, c.set_at-old.ensures.sums_capacity)) c.args.i c.undeleted-out.result c.undeleted-added.result c.set_at-old.result c.args.run
    (c.set_at-old.ensures.list ∙ ap (λ (n : ℕ). set (flat bs) n c.args.run) at) (ap (slice_get (flat bs)) (sym at) ∙ c.set_at-old.ensures.old) c.requires.some (omega (arith, s, c.requires.few))
    c.undeleted-out.ensures.value c.undeleted-added.ensures.value c.set_at-old.ensures.weight c.set_at-old.ensures.len

pub returns-clause-list : goal.returns-clause-list
returns-clause-list c =
    let bs = c.self.inside.blocks.items in
    let at = c.spot_of-spot.ensures.number bs (c.deref.ensures.value ∙ c.self.invariant.sums_are) in
    c.set_at-old.ensures.list ∙ ap (λ (n : ℕ). set (flat bs) n c.args.run) at ∙ ap (λ (v : RunsView). set v.list c.args.i c.args.run) c.self.view_is
