use Rattle.std.proofs.Common.{arith, sym, ◌∙◌}
use Rattle.braid_hall.proofs.Keeps.{draws}
use Rattle.braid_hall.proofs.hall.Hall.draw.Goals as goal

pub fetch_add-requires : goal.fetch_add-requires
fetch_add-requires g c = let wide = c.self.invariant.0 in let s = c.requires.seat in (c.requires.hall ∙ sym c.self.view_is, omega arith, draws _ _ _ _ _ _ _ s.0 s.1 s.2 s.3)
