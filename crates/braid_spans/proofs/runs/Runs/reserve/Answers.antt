use Rattle.std.proofs.Common.{◌≡◌, ◌∙◌, All, length, sym, ap, subst, arith}
use Rattle.braid_spans.specs.Blocks.{flat, weight, IsFilled}
use Rattle.braid_spans.proofs.InBlocks.{sums_long}
use Rattle.braid_spans.proofs.KeptBlocks.{blocks_reserved, weight_most}
use Rattle.braid_spans.proofs.runs.Runs.reserve.Goals as goal

pub invariant_of-self-2 : goal.invariant_of-self-2
invariant_of-self-2 c =
    let in' = c.self.inside in
    let bs = in'.blocks.items in
    let list = c.reserve_blocks.ensures.list in
    let w : weight c.reserve_blocks.new.blocks.items ≡ weight bs = ap weight list in
    let n : length c.reserve_blocks.new.blocks.items ≡ length bs = ap length list in
    blocks_reserved bs c.begin_blocks.new.blocks.items in'.sums.items c.begin_blocks.new.sums.items in'.count in'.undeleted in'.room _ _ _ _ c.self.invariant c.begin_blocks.ensures.sums
    (c.begin_blocks.ensures.small (subst (All IsFilled) (sym list) c.self.invariant.small))
    (omega (arith, c.reserve_blocks.ensures.capacity, c.begin_blocks.ensures.capacity)) (omega (arith, c.reserve_blocks.ensures.sums_capacity, c.begin_blocks.ensures.sums_capacity)) c.args.more
    (c.begin_blocks.ensures.list ∙ ap flat list)
    (omega (arith, w, n, weight_most bs c.self.invariant.small, c.begin_blocks.ensures.weight, c.begin_blocks.ensures.len, c.begin_blocks.ensures.capacity, c.in_ok-reserve_blocks.ensures.ok, c.len.ensures))
    (omega (arith, w, n, weight_most bs c.self.invariant.small, c.begin_blocks.ensures.weight, c.begin_blocks.ensures.len, c.begin_blocks.ensures.sums_capacity, c.in_ok-reserve_blocks.ensures.ok_sums, c.len.ensures, sums_long bs in'.sums.items c.self.invariant.sums_are, ap length c.reserve_blocks.ensures.sums))
    c.begin_blocks.ensures.some
