use Rattle.std.proofs.Common.{◌≡◌, ◌+◌, ◌<◌, ◌∙◌, ℕ, List, length, ap, arith}
use Rattle.std.specs.List.{insert}
use Rattle.braid_spans.specs.declared.run.Run.{Run}
use Rattle.braid_spans.specs.Kept.{RunsView, size_in, undeleted_in}
use Rattle.braid_spans.specs.Blocks.{flat, before}
use Rattle.braid_spans.proofs.Sizes.{undeleted_below, undeleted_one}
use Rattle.braid_spans.proofs.KeptBlocks.{few_runs, few_undeleted, blocks_insert}
use Rattle.braid_spans.proofs.InBlocks.{count_sums, spot_within, sums_long}
use Rattle.braid_spans.proofs.runs.Runs.insert.Goals as goal

pub gap_of-gap-requires : goal.gap_of-gap-requires
gap_of-gap-requires c =
    let bs = c.self.inside.blocks.items in
    let is = c.deref.ensures.value ∙ c.self.invariant.sums_are in
    let n = count_sums bs c.deref.result.now is in
    let v : length (flat bs) ≡ length c.args.self.now.list = ap (λ (v : RunsView). length v.list) c.self.view_is in
    let r : c.self.inside.room ≡ c.args.self.now.room = ap (λ (v : RunsView). v.room) c.self.view_is in
    let some : 0 < length bs = c.self.invariant.begun (omega (arith, r, c.requires.roomy)) in
    record { some = omega (arith, some, sums_long bs c.deref.result.now is); within = omega (arith, n, v, c.requires.within) }

pub make_room-spot-requires-clause-there : goal.make_room-spot-requires-clause-there
make_room-spot-requires-clause-there c = c.gap_of-gap.ensures.spot c.self.inside.blocks.items (c.deref.ensures.value ∙ c.self.invariant.sums_are)

pub make_room-spot-requires-clause-few : goal.make_room-spot-requires-clause-few
make_room-spot-requires-clause-few c = few_undeleted c.self.inside.blocks.items c.self.inside.undeleted c.self.invariant.counted

pub make_room-spot-requires-clause-spare : goal.make_room-spot-requires-clause-spare
make_room-spot-requires-clause-spare c =
    let r : c.self.inside.room ≡ c.args.self.now.room = ap (λ (v : RunsView). v.room) c.self.view_is in
    omega (arith, r, c.requires.roomy, c.self.invariant.roomy)

pub make_room-spot-requires-clause-spare_sums : goal.make_room-spot-requires-clause-spare_sums
make_room-spot-requires-clause-spare_sums c =
    let r : c.self.inside.room ≡ c.args.self.now.room = ap (λ (v : RunsView). v.room) c.self.view_is in
    omega (arith, r, c.requires.roomy, c.self.invariant.sums_roomy)

pub insert_at-requires-clause-few : goal.insert_at-requires-clause-few
insert_at-requires-clause-few c =
    let bs = c.self.inside.blocks.items in
    let e : undeleted_in (flat c.make_room-spot.new.blocks.items) ≡ undeleted_in (flat bs) = ap undeleted_in c.make_room-spot.ensures.list in
    let s : size_in (flat bs) ≡ size_in c.args.self.now.list = ap (λ (v : RunsView). size_in v.list) c.self.view_is in
    omega (arith, e, s, undeleted_below (flat bs), c.requires.few)

pub overflow_add-self : goal.overflow_add-self
overflow_add-self c = omega (arith, few_runs c.self.inside.blocks.items c.self.inside.undeleted c.self.invariant.counted, c.self.invariant.count_is)

pub overflow_add-self-2 : goal.overflow_add-self-2
overflow_add-self-2 c =
    let bs = c.self.inside.blocks.items in
    let s : size_in (flat bs) ≡ size_in c.args.self.now.list = ap (λ (v : RunsView). size_in v.list) c.self.view_is in
    omega (arith, s, undeleted_below (flat bs), undeleted_one c.args.run, c.undeleted-added.ensures.value, c.self.invariant.counted.undeleted, c.requires.few)

pub overflow_sub-self : goal.overflow_sub-self
overflow_sub-self c =
    let r : c.self.inside.room ≡ c.args.self.now.room = ap (λ (v : RunsView). v.room) c.self.view_is in
    omega (arith, r, c.requires.roomy)

pub invariant_of-self : goal.invariant_of-self
invariant_of-self c =
    let in' = c.self.inside in
    let bs = in'.blocks.items in
    let now = c.make_room-spot.new.blocks.items in
    let new = c.insert_at.new.blocks.items in
    let at = c.gap_of-gap.ensures.number bs (c.deref.ensures.value ∙ c.self.invariant.sums_are) in
    let list : flat new ≡ insert (flat bs) c.args.i c.args.run =
    c.insert_at.ensures.list ∙ ap (λ t. insert t (before now c.make_room-spot.result.block + c.make_room-spot.result.index) c.args.run) c.make_room-spot.ensures.list
    ∙ ap (λ (n : ℕ). insert (flat bs) n c.args.run) (c.make_room-spot.ensures.spot ∙ at) in
    let v : length (flat bs) ≡ length c.args.self.now.list = ap (λ (v : RunsView). length v.list) c.self.view_is in
    let s : size_in (flat bs) ≡ size_in c.args.self.now.list = ap (λ (v : RunsView). size_in v.list) c.self.view_is in
    let r : in'.room ≡ c.args.self.now.room = ap (λ (v : RunsView). v.room) c.self.view_is in
    let there = spot_within now c.make_room-spot.result.block (λ (b : List Run). length b < 256) c.make_room-spot.ensures.roomy in
    blocks_insert bs new in'.sums.items c.insert_at.new.sums.items in'.count in'.undeleted in'.room _ _ _ _ c.self.invariant c.insert_at.ensures.sums (c.insert_at.ensures.small c.make_room-spot.ensures.small)
    (omega (arith, c.make_room-spot.ensures.capacity, c.insert_at.ensures.capacity)) (omega (arith, c.make_room-spot.ensures.sums_capacity, c.insert_at.ensures.sums_capacity)) c.args.i c.undeleted-added.result c.args.run
    list (omega (arith, v, c.requires.within)) c.requires.some (omega (arith, s, c.requires.few)) c.undeleted-added.ensures.value
    (omega (arith, c.make_room-spot.ensures.weight, c.insert_at.ensures.weight, c.insert_at.ensures.len)) (omega (arith, r, c.requires.roomy)) (omega (arith, there, c.insert_at.ensures.len))

pub returns-clause-list : goal.returns-clause-list
returns-clause-list c =
    let bs = c.self.inside.blocks.items in
    let at = c.gap_of-gap.ensures.number bs (c.deref.ensures.value ∙ c.self.invariant.sums_are) in
    c.insert_at.ensures.list ∙ ap (λ t. insert t (before c.make_room-spot.new.blocks.items c.make_room-spot.result.block + c.make_room-spot.result.index) c.args.run) c.make_room-spot.ensures.list
    ∙ ap (λ (n : ℕ). insert (flat bs) n c.args.run) (c.make_room-spot.ensures.spot ∙ at) ∙ ap (λ (v : RunsView). insert v.list c.args.i c.args.run) c.self.view_is
