use Rattle.std.proofs.Common.{sym}
use Rattle.braid_ids.proofs.Flags.{size_is}
use Rattle.braid_ids.proofs.marks.Marks.size.Goals as goal

pub returns : goal.returns
returns c = rw (← c.self.view_is) (record { size = sym (size_is c.self.inside.size c.self.inside.pieces.items c.self.invariant) })
