use Rattle.std.proofs.Common.{◌≡◌, ℕ, ◌+◌, ◌≤◌, List, ◌++◌, take, drop, length, arith, ap, sym, subst, ◌∙◌}
use Rattle.std.proofs.lemmas.List.{take-take, length-take, length-drop}
use Rattle.braid_change.specs.Updates.{UpdateView}
use Rattle.braid_frame.specs.declared.fed.Fed.{Fed}
use Rattle.braid_frame.specs.declared.state.State.{State}
use Rattle.braid_frame.specs.Framing.{StandsFor, Takes, updates_of}
use Rattle.braid_frame.proofs.Feeding.{take_sum}
use Rattle.braid_frame.proofs.tests.feed_all.Goals as goal

-- what was fed, after one more feed of a piece of the bytes
fed_more : (us : List UpdateView) (bytes : List ℕ) (at n : ℕ) (fed : Fed) (new : State) → at ≤ length bytes → Takes us (take at bytes) (take n (drop at bytes)) fed new
    → (at + fed.taken ≤ length bytes) × StandsFor (us ++ updates_of fed.update) new (take (at + fed.taken) bytes)
fed_more us bytes at n fed new w t =
    let l : fed.taken ≤ n = omega (arith, t.within, length-take n (drop at bytes)) in
    let whole : take at bytes ++ take fed.taken (take n (drop at bytes)) ≡ take (at + fed.taken) bytes = ap (λ x. take at bytes ++ x) (take-take fed.taken n (drop at bytes) l) ∙ sym (take_sum at fed.taken bytes) in
    (omega (arith, t.within, length-take n (drop at bytes), length-drop at bytes), subst (StandsFor (us ++ updates_of fed.update) new) whole t.stands)

pub loop-at-preserved : goal.loop-at-preserved
loop-at-preserved c =
    let k = c.loop-at.invariant.stands in
    let t = c.in-Ok.ensures.feeds k.0 (take c.loop-at.at c.args.bytes.now) k.1 in
    let m = fed_more k.0 c.args.bytes.now c.loop-at.at _ c.in-Ok.fed c.feed.new.self c.loop-at.invariant.within t in
    record { open_still = t.open_still; within = m.0; stands = (k.0 ++ updates_of c.in-Ok.fed.update, m.1) }
