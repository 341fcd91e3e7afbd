use Rattle.std.proofs.Common.{arith, sym, ◌∙◌}
use Rattle.braid_hall.proofs.Splits.{joins}
use Rattle.braid_hall.proofs.Shapes.{begins_with_both}
use Rattle.braid_hall.proofs.hall.Hall.merge.Goals as goal

pub join_seat-requires : goal.join_seat-requires
join_seat-requires g c = let wide = c.self.invariant.0 in let f = c.requires.first in let o = c.requires.other in (
  c.requires.hall.0 ∙ sym c.self.view_is,
  c.requires.hall.1 ∙ sym c.self.view_is,
  o.3,
  omega arith,
  joins _ _ _ _ _ _ _ _ f.0 f.1 o.0 o.2 o.1,
)

pub returns-clause-mine : goal.returns-clause-mine
returns-clause-mine g c = (begins_with_both c.args.seat.now.me c.args.other.me.0 _ _ c.join_seat.ensures.2 c.compare.ensures.same.1 c.compare.ensures.both).0

pub returns-clause-theirs : goal.returns-clause-theirs
returns-clause-theirs g c = (begins_with_both c.args.seat.now.me c.args.other.me.0 _ _ c.join_seat.ensures.2 c.compare.ensures.same.1 c.compare.ensures.both).1
