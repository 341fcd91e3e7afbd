use Rattle.std.proofs.Common.{◌-◌, length, ap, ◌∙◌}
use Rattle.std.specs.Str.{all_scalars}
use Rattle.braid_change.proofs.Cuts.{next_listed, next_within, next_cut, next_scalars, last_scalars}
use Rattle.braid_change.proofs.splices.cut.Goals as goal

pub loop-patch-preserved : goal.loop-patch-preserved
loop-patch-preserved c =
    let listed = next_listed _ _ _ _ c.loop-patch-test.true c.patch-item.is c.loop-patch.invariant.listed in
    let within = next_within _ _ _ _ c.loop-patch-test.true c.patch-item.is c.loop-patch.invariant.within in
    let text = c.args.text.now in
    let done = c.loop-patch.chars.items in
    let one = c.extend_from_slice.new.self.items in
    let two = c.extend_from_slice-in-loop-patch.new.self.items in
    let body = c.chars.result.now in
    let at = c.loop-patch.at in
    record {
      low = within.0;
      listed = listed.2;
      within = within.1;
      whole = next_cut text done one two body _ _ at _ c.patch-item.result c.loop-patch-test.true c.patch-item.is listed.0 listed.1 c.loop-patch.invariant.whole c.in_ok-extend_from_slice.ensures.items c.chars.ensures.value c.in_ok-extend_from_slice-2.ensures.items;
      scalar = next_scalars text done one two body at (c.patch-item.result.start - at) c.in_ok-extend_from_slice.ensures.items c.in_ok-extend_from_slice-2.ensures.items c.requires.scalar c.loop-patch.invariant.scalar (ap all_scalars c.chars.ensures.value ∙ c.chars.ensures.valid);
    }

pub returns-clause-scalar : goal.returns-clause-scalar
returns-clause-scalar c = last_scalars c.args.text.now c.loop-patch.chars.items c.extend_from_slice-2.new.self.items c.loop-patch.at (length c.args.text.now - c.loop-patch.at) c.in_ok-extend_from_slice-3.ensures.items c.requires.scalar c.loop-patch.invariant.scalar
