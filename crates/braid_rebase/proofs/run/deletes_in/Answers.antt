use Rattle.std.proofs.Common.{◌+◌, length, arith}
use Rattle.braid_rebase.proofs.RunLists.{ranges_left, places_pushed}
use Rattle.braid_rebase.proofs.run.deletes_in.Goals as goal

pub overflow_sub-start : goal.overflow_sub-start
overflow_sub-start c = (ranges_left c.args.first (c.args.first + length c.args.places.now) c.loop-range.range-index c.args.ranges.now c.range-item.result c.loop-range-test.true c.range-item.is c.loop-range.invariant.left).0

pub overflow_sub-end : goal.overflow_sub-end
overflow_sub-end c =
    let h = ranges_left c.args.first (c.args.first + length c.args.places.now) c.loop-range.range-index c.args.ranges.now c.range-item.result c.loop-range-test.true c.range-item.is c.loop-range.invariant.left in
    omega (arith, h.0, h.1)

pub slice_bounds-extend_from_slice-count : goal.slice_bounds-extend_from_slice-count
slice_bounds-extend_from_slice-count c =
    let h = ranges_left c.args.first (c.args.first + length c.args.places.now) c.loop-range.range-index c.args.ranges.now c.range-item.result c.loop-range-test.true c.range-item.is c.loop-range.invariant.left in
    omega (arith, h.1)

pub loop-range-preserved : goal.loop-range-preserved
loop-range-preserved c =
    let h = ranges_left c.args.first (c.args.first + length c.args.places.now) c.loop-range.range-index c.args.ranges.now c.range-item.result c.loop-range-test.true c.range-item.is c.loop-range.invariant.left in
    record {
      left = h.3;
      all = places_pushed c.args.places.now c.args.first c.loop-range.range-index c.args.ranges.now c.range-item.result c.loop-range.deletes.items c.extend_from_slice.new.self.items c.loop-range-test.true c.range-item.is c.in_ok-extend_from_slice.ensures.items c.loop-range.invariant.all;
    }
