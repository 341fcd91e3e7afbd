use Rattle.std.proofs.Common.{◌≤◌, ◌<◌, ◌^◌, ap, arith}
use Rattle.braid_ids.proofs.Flags.{keep_more, marks_kept, size_is}
use Rattle.braid_ids.proofs.marks.Marks.widen.Goals as goal

pub invariant_of-self : goal.invariant_of-self
invariant_of-self c =
    let size = c.self.inside.size in
    let ps = c.self.inside.pieces.items in
    let long = size_is size ps c.self.invariant in
    let most = rw (← c.self.view_is) at c.requires.within in
    let within : size ≤ c.args.size = omega (arith, most, long) in
    let small : c.args.size < 2 ^ 32 = omega (arith, c.ranges.size.fits) in
    keep_more size c.args.size ps within small c.self.invariant

pub returns-clause-size : goal.returns-clause-size
returns-clause-size c = size_is c.args.size c.self.inside.pieces.items (invariant_of-self c)

pub returns-clause-kept : goal.returns-clause-kept
returns-clause-kept c = rw (← c.self.view_is) (marks_kept c.self.inside.size c.args.size c.self.inside.pieces.items c.self.invariant (invariant_of-self c))
