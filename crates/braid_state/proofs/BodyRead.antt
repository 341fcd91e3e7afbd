-- A body that is read: confirmed updates, unsent ones, and the tail.
use Rattle.std.proofs.Common.{◌≡◌, ℕ, ◌+◌, ◌≤◌, decimal, List, ◌++◌, length, subst, arith, length-append}
use Rattle.braid_change.specs.Updates.{UpdateView}
use Rattle.braid_state.specs.declared.head.Heading.{Heading}
use Rattle.braid_state.specs.Heads.{head_lines, count_of, most_updates, HasLines}
use Rattle.braid_state.specs.States.{UpdatesThen, end_mark}
use Rattle.braid_state.specs.StateFaults.{LacksUpdate, IsBadTail, IsBadBody, bad_update, bad_tail, IsBadFrom, bad_body}
use Rattle.braid_state.specs.Stops.{head_read}
use Rattle.braid_state.proofs.Counts.{decimal_count}
use Rattle.braid_state.proofs.Updates.{updates_join}

-- an unsent update is none
pub bad_second : (us : List UpdateView) (n m : ℕ) (rest left bytes : List ℕ) → length us ≡ n → UpdatesThen us rest bytes → LacksUpdate m left rest → IsBadBody (n + m) left bytes
bad_second us n m rest left bytes e h k = bad_update (record {
  updates = us ++ k.updates;
  fewer = omega (arith, k.fewer, length-append us k.updates);
  good = updates_join us k.updates rest left bytes h k.good;
  bad = k.bad;
})

pub bad_end : (us vs : List UpdateView) (n m : ℕ) (rest tail left bytes : List ℕ) → length us ≡ n → length vs ≡ m → UpdatesThen us rest bytes → UpdatesThen vs tail rest → IsBadTail left tail → IsBadBody (n + m) left bytes
bad_end us vs n m rest tail left bytes e f h k t = bad_tail (us ++ vs) tail (omega (arith, length-append us vs)) (updates_join us vs rest tail bytes h k) t

pub whole_body : (us vs : List UpdateView) (gap rest tail bytes : List ℕ) → UpdatesThen us rest bytes → UpdatesThen vs tail rest → tail ≡ gap ++ end_mark → UpdatesThen (us ++ vs) (gap ++ end_mark) bytes
whole_body us vs gap rest tail bytes h k e = subst (λ t. UpdatesThen (us ++ vs) t bytes) e (updates_join us vs rest tail bytes h k)

-- the body behind a head that was read is bad
pub bad_behind : (heading : Heading) (rest body bytes : List ℕ) → HasLines head_lines (head_read heading) body bytes → heading.confirmed + heading.unsent ≤ most_updates → IsBadBody (heading.confirmed + heading.unsent) rest body → IsBadFrom rest bytes
bad_behind heading rest body bytes h l k =
    let confirmed : count_of (decimal heading.confirmed) ≡ heading.confirmed = (decimal_count heading.confirmed (omega arith)).1 in
    let unsent : count_of (decimal heading.unsent) ≡ heading.unsent = (decimal_count heading.unsent (omega arith)).1 in
    let same : heading.confirmed + heading.unsent ≡ count_of (decimal heading.confirmed) + count_of (decimal heading.unsent) = cc in
    bad_body (head_read heading) body h (subst (λ n. IsBadBody n rest body) same k)
