use Rattle.std.proofs.Common.{sym, ap, ◌∙◌}
use Rattle.std.specs.Prelude.{Some, ◌∷◌}
use Rattle.std.proofs.lemmas.Option.{none-some}
use Rattle.atomic_table.specs.Table.{rest}
use Rattle.braid_hall.proofs.Shapes.{can_draw, drawn_seat, waits_seat, found_seat, has_slot, had_slot, turn_rests, turn_enters}
use Rattle.braid_hall.proofs.hall.Hall.turn.Goals as goal

pub draw-ticket-requires-clause-seat : goal.draw-ticket-requires-clause-seat
draw-ticket-requires-clause-seat g c = let r = c.requires.idle in can_draw _ _ c.look.result r.0 r.1 c.if-look-ge-WORN.false c.look.ensures.1

pub await_turn-requires-clause-seat : goal.await_turn-requires-clause-seat
await_turn-requires-clause-seat g c = let r = c.requires.idle in waits_seat _ _ c.look.result c.draw-ticket.result r.0 r.1 (drawn_seat _ _ _ _ _ r.0 r.1 c.look.ensures.1 c.draw-ticket.ensures.1)

pub exchange-requires : goal.exchange-requires
exchange-requires g c = let r = c.requires.idle in let f = c.await_turn.ensures.served in (
  c.await_turn.ensures.hall ∙ (c.draw-ticket.ensures.0 ∙ (c.look.ensures.0 ∙ (c.requires.hall ∙ sym c.self.view_is))),
  has_slot _ _ (Some f.0) (found_seat _ _ _ _ _ (drawn_seat _ _ _ _ _ r.0 r.1 c.look.ensures.1 c.draw-ticket.ensures.1) f.2),
)

pub unreachable-requires : goal.unreachable-requires
unreachable-requires g c = let r = c.requires.idle in let f = c.await_turn.ensures.served in
    none-some f.0 (sym c.in_default.is ∙ had_slot _ _ (Some f.0) _ (found_seat _ _ _ _ _ (drawn_seat _ _ _ _ _ r.0 r.1 c.look.ensures.1 c.draw-ticket.ensures.1) f.2) c.exchange.ensures.2)

pub returns-clause-rests : goal.returns-clause-rests
returns-clause-rests g c = let r = c.requires.idle in let f = c.await_turn.ensures.served in let x = c.exchange.ensures in
    turn_rests g.B.Annals.entries g.B.Annals.by c.args.seat.now.me c.draw-ticket.new.seat.me c.await_turn.new.seat.me c.exchange.new.seat.me c.look.result c.draw-ticket.result f.0 c.in-Some.book r.0 r.1 c.if-look-ge-WORN.false
    (drawn_seat _ _ _ _ _ r.0 r.1 c.look.ensures.1 c.draw-ticket.ensures.1) f.1 f.2 (x.2 ∙ ap (λ z. (0, z) ∷ rest c.await_turn.new.seat.me.1) c.in-Some.is) x.3

pub returns-clause-held : goal.returns-clause-held
returns-clause-held g c = let r = c.requires.idle in let f = c.await_turn.ensures.served in let x = c.exchange.ensures in
    turn_enters g.B.Annals.entries g.B.Annals.by c.args.seat.now.me c.draw-ticket.new.seat.me c.await_turn.new.seat.me c.exchange.new.seat.me c.look.result c.draw-ticket.result f.0 c.in-Some.book r.0 r.1 c.if-look-ge-WORN.false
    (drawn_seat _ _ _ _ _ r.0 r.1 c.look.ensures.1 c.draw-ticket.ensures.1) f.1 f.2 (x.2 ∙ ap (λ z. (0, z) ∷ rest c.await_turn.new.seat.me.1) c.in-Some.is) x.3
