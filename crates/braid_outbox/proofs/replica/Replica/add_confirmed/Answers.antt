use Rattle.std.proofs.Common.{refl, sym, unwrap_or, ◌∙◌}
use Rattle.braid_outbox.specs.Replicas.{number}
use Rattle.braid_outbox.proofs.Wholes.{whole_confirmed}
use Rattle.braid_outbox.proofs.Calls.{room_fits, answer_now, confirmed_view, confirmed_next, same_view}
use Rattle.braid_outbox.proofs.replica.Replica.add_confirmed.Goals as goal

pub accept-requires-clause-versions : goal.accept-requires-clause-versions
accept-requires-clause-versions c = (room_fits _ _ _ _ _ c.self.invariant.kept _ c.self.view_is _ _ c.room-room.ensures.room).0

pub accept-requires-clause-elements : goal.accept-requires-clause-elements
accept-requires-clause-elements c = (room_fits _ _ _ _ _ c.self.invariant.kept _ c.self.view_is _ _ c.room-room.ensures.room).1

pub accept-requires-clause-deletions : goal.accept-requires-clause-deletions
accept-requires-clause-deletions c = (room_fits _ _ _ _ _ c.self.invariant.kept _ c.self.view_is _ _ c.room-room.ensures.room).2

pub invariant_of-self-in-New : goal.invariant_of-self-in-New
invariant_of-self-in-New c = whole_confirmed _ _ _ _ _ _ _ c.self.invariant _ _ _ _ _
    (confirmed_next _ _ _ _ _ c.self.invariant.kept _ c.self.view_is _ _ _ _ _ _ _ _ _ _ (c.in-New.ensures.taken refl) c.reserve.ensures.numbers c.reserve.ensures.confirmed c.reserve.ensures.flags c.add_confirmed.ensures.numbers c.add_confirmed.ensures.confirmed c.add_confirmed.ensures.flags c.room-room.ensures.room c.in-New.ensures.answer c.requires.parents)
    (c.in-New.ensures.taken refl)
    (confirmed_view _ _ _ _ _ c.self.invariant.kept _ refl _ _ _ _ _ _ (c.in-New.ensures.taken refl) c.reserve.ensures.numbers c.reserve.ensures.confirmed c.add_confirmed.ensures.numbers c.add_confirmed.ensures.confirmed)
    _ _ _ _ c.reserve.ensures.heads c.add_confirmed.ensures.heads c.entries-place.ensures.count c.clear_parents.ensures.size c.clear_parents.ensures.cleared _ _
    (c.number_of-number.ensures.number ∙ (λ i. unwrap_or (number ((sym c.self.view_is i).agent) (c.id.ensures.value i)) 0)) c.max-self-inside.ensures

pub returns-in-New-clause-answer : goal.returns-in-New-clause-answer
returns-in-New-clause-answer c = λ n. answer_now _ _ _ _ _ c.self.invariant.kept _ c.self.view_is _ _ _ _ c.room-room.ensures.room c.read_parents.ensures.rising c.in-New.ensures.answer n

pub returns-in-New-clause-taken : goal.returns-in-New-clause-taken
returns-in-New-clause-taken c = λ n. confirmed_view _ _ _ _ _ c.self.invariant.kept _ c.self.view_is _ _ _ _ _ _ (c.in-New.ensures.taken refl) c.reserve.ensures.numbers c.reserve.ensures.confirmed c.add_confirmed.ensures.numbers c.add_confirmed.ensures.confirmed

pub returns-in_default-accept : goal.returns-in_default-accept
returns-in_default-accept c = record {
  answer = λ n. answer_now _ _ _ _ _ c.self.invariant.kept _ c.self.view_is _ _ _ _ c.room-room.ensures.room c.read_parents.ensures.rising c.accept.ensures.answer n;
  taken = λ t. absurd (c.in_default-accept.not-New t);
  kept = λ n. same_view _ _ _ _ _ c.self.invariant.kept _ c.self.view_is _ _ _ (c.accept.ensures.kept n) c.reserve.ensures.numbers c.reserve.ensures.confirmed;
}
