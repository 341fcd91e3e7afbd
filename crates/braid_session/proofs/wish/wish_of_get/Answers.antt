use Rattle.std.proofs.Common.{◌≡◌, ◌≢◌, false, Some, None, ◌⊎◌, inl, inr, length, sym, ◌∙◌}
use Rattle.braid_session.specs.Orders.{is_subscription}
use Rattle.braid_session.proofs.Judging.{reads_at}
use Rattle.braid_session.proofs.wish.wish_of_get.Goals as goal
use Rattle.braid_session.proofs.wish.wish_of_get.Goals.{then-len-eq0, else-len-eq0}

pub returns : goal.returns
returns c =
    let ids = c.in_ok-ids.ids in
    let at = c.if-len-eq0.at in
    let plain : is_subscription c.args.request.now ≡ false = sym c.is_subscription.ensures.value ∙ c.if-is_subscription.false in
    let asked : ((at ≡ None) × (length ids ≡ 0)) ⊎ ((at ≡ Some ids) × (length ids ≢ 0)) =
    elim c.if-len-eq0.branch [
      | then-len-eq0 w ↦ inl (w.at-is, sym c.len.ensures.len ∙ w.if-len-eq0.true)
      | else-len-eq0 w ↦ inr (w.at-is, λ none. w.if-len-eq0.false (c.len.ensures.len ∙ none))
    ] in
    record { wants = (c.in_ok-ids.ensures.list.0, reads_at c.args.request.now ids at plain c.in_ok-ids.ensures.list.1 asked) }
