use Rattle.std.proofs.Common.{arith, sym, ◌∙◌}
use Rattle.braid_hall.proofs.Keeps.{compares}
use Rattle.braid_hall.proofs.hall.Hall.compare.Goals as goal

pub load-ticket-requires : goal.load-ticket-requires
load-ticket-requires g c = let wide = c.self.invariant.0 in (c.requires.0 ∙ sym c.self.view_is, omega arith, compares _ _ _ _ _ _ _ c.requires.1)
