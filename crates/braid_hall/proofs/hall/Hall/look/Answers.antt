use Rattle.std.proofs.Common.{arith, sym, ◌∙◌}
use Rattle.braid_hall.proofs.Keeps.{looks}
use Rattle.braid_hall.proofs.hall.Hall.look.Goals as goal

pub load-requires : goal.load-requires
load-requires g c = let wide = c.self.invariant.0 in (c.requires.0 ∙ sym c.self.view_is, omega arith, looks _ _ _ _ _ _ _ c.requires.1)
