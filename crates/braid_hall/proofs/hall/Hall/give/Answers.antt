use Rattle.std.proofs.Common.{arith, sym, ap, ◌∙◌, refl}
use Rattle.braid_hall.proofs.Shapes.{gives, put_seat, busy_seat, has_slot, had_slot, left_seat, idle_rests}
use Rattle.std.specs.Prelude.{Some, None}
use Rattle.std.proofs.lemmas.Option.{none-some}
use Rattle.braid_hall.proofs.hall.Hall.give.Goals as goal

pub exchange-old-requires : goal.exchange-old-requires
exchange-old-requires g c = let r = c.requires.busy in (c.requires.hall ∙ sym c.self.view_is, has_slot _ _ None (busy_seat _ r.0 r.1))

pub unreachable-requires : goal.unreachable-requires
unreachable-requires g c = let r = c.requires.busy in none-some _ (sym (had_slot _ _ None _ (busy_seat _ r.0 r.1) c.exchange-old.ensures.2) ∙ c.in_default.is)

pub fetch_add-served-requires : goal.fetch_add-served-requires
fetch_add-served-requires g c = let wide = c.self.invariant.0 in let r = c.requires.busy in let x = c.exchange-old.ensures in (
  x.0 ∙ (c.requires.hall ∙ sym c.self.view_is),
  omega arith,
  gives g.B.Annals.entries g.B.Annals.by _ _ _ _ c.args.seat.now.me.0 _ c.args.book (put_seat _ _ _ None (Some c.args.book) (busy_seat _ r.0 r.1) x.3) r.0.lives r.1 c.requires.book,
)

pub returns-clause-rests : goal.returns-clause-rests
returns-clause-rests g c = let r = c.requires.busy in let x = c.exchange-old.ensures in
    idle_rests _ _ (left_seat g.B.Annals.entries g.B.Annals.by c.args.seat.now.me.0 _ _ c.args.book (put_seat _ _ _ None (Some c.args.book) (busy_seat _ r.0 r.1) x.3) c.fetch_add-served.ensures.2) r.0.lives refl refl

pub returns-clause-left : goal.returns-clause-left
returns-clause-left g c = let r = c.requires.busy in let x = c.exchange-old.ensures in
    ap (λ m. m.0) (left_seat g.B.Annals.entries g.B.Annals.by c.args.seat.now.me.0 _ _ c.args.book (put_seat _ _ _ None (Some c.args.book) (busy_seat _ r.0 r.1) x.3) c.fetch_add-served.ensures.2)
