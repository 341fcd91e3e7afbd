use Rattle.std.proofs.Common.{arith, sym, ◌∙◌}
use Rattle.braid_hall.proofs.Keeps.{finds}
use Rattle.braid_hall.proofs.hall.Hall.find.Goals as goal

pub load-requires : goal.load-requires
load-requires g c = let wide = c.self.invariant.0 in let s = c.requires.seat in (c.requires.hall ∙ sym c.self.view_is, omega arith, finds _ _ _ _ _ _ _ c.args.ticket s.0 s.1 s.2)
