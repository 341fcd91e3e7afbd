use Rattle.std.proofs.Common.{ℕ, ◌<◌, sym, subst, ◌∙◌}
use Rattle.std.specs.List.{slice_get}
use Rattle.std.specs.Option.{IfSome}
use Rattle.braid_outbox.proofs.Calls.{first_flag, first_view, first_next}
use Rattle.braid_outbox.proofs.Wholes.{whole_first}
use Rattle.braid_outbox.proofs.replica.Replica.confirm_first.Goals as goal

pub confirm_first-place-requires-clause-within : goal.confirm_first-place-requires-clause-within
confirm_first-place-requires-clause-within c = first_flag _ _ _ _ _ c.self.invariant.kept _ c.self.view_is c.requires.some

pub confirm_first-place-requires-clause-head : goal.confirm_first-place-requires-clause-head
confirm_first-place-requires-clause-head c = let in' = c.self.inside in subst (λ (size : ℕ). IfSome (slice_get in'.order.numbers.items in'.order.confirmed) (λ n. n < size)) (c.self.invariant.kept.size ∙ sym c.self.invariant.marks.size) (first_flag _ _ _ _ _ c.self.invariant.kept _ c.self.view_is c.requires.some)

pub invariant_of-self : goal.invariant_of-self
invariant_of-self c = whole_first _ _ _ _ _ _ _ c.self.invariant _ c.confirm_first-place.ensures.number _ _ _
    (first_next _ _ _ _ _ c.self.invariant.kept _ c.self.view_is c.requires.some _ _ _ c.confirm_first-place.ensures.numbers c.confirm_first-place.ensures.confirmed c.confirm_first-place.ensures.flags)
    c.confirm_first-place.ensures.numbers c.confirm_first-place.ensures.confirmed _ _ c.confirm_first-place.ensures.heads c.clear_parents.ensures.size c.clear_parents.ensures.cleared

pub returns : goal.returns
returns c = record { moved = first_view _ _ _ _ _ c.self.invariant.kept _ c.self.view_is c.requires.some _ _ c.confirm_first-place.ensures.numbers c.confirm_first-place.ensures.confirmed }
