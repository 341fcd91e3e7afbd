-- What a write adds to a replica, and why it adds nothing. Lists of updates stand newest first where a name ends in `in`.
use Rattle.std.specs.Prelude.{◌≡◌, ℕ, zero, suc, ◌+◌, ◌-◌, ◌/◌, ◌^◌, ◌<◌, ◌≤◌, nat_le, nat_lt, List, [], ◌∷◌, ◌++◌, length, take, filter, reverse, Bool, true, not, ◌&&◌, if◌then◌else◌, Option, Some, None, is_some, IsSome}
use Rattle.std.specs.Ordering.{is_eq}
use Rattle.braid_ids.specs.Identifiers.{id_cmp}
use Rattle.braid_ids.specs.Frontiers.{rising_ids}
use Rattle.braid_ids.specs.Agents.{agent_name}
use Rattle.braid_change.specs.declared.change.Change.{Change}
use Rattle.braid_change.specs.declared.change.Change.TheVariants.{Patches}
use Rattle.braid_change.specs.Changes.{IsShaped}
use Rattle.braid_change.specs.Updates.{UpdateView, IsBuildFault}
use Rattle.braid_change.specs.Splices.{spliced, first_past}
use Rattle.braid_text.specs.Histories.{text_of}
use Rattle.braid_text.specs.Refusals.{first_full}
use Rattle.braid_text.specs.Answers.{needs_of, room_of, IsOver}
use Rattle.braid_text.specs.Rooms.{limit_of}
use Rattle.braid_text.specs.declared.room.Room.{Room}
use Rattle.braid_outbox.specs.declared.faults.WriteFault.{WriteFault}
use Rattle.braid_outbox.specs.declared.faults.WriteFault.TheVariants.{Shape, OutOfRange, NumbersSpent, Full, Memory}
use Rattle.braid_outbox.specs.Shapes.{is_change}
use Rattle.braid_outbox.specs.Replicas.{ReplicaView, all_of, log_of, frontier, greatest_number}

-- the agent's next update, which has the number after its greatest one
abbrev pub next_in : List ℕ → List UpdateView → List (List ℕ) → Change → UpdateView
next_in a us parents change =
    record { id = agent_name a (1 + greatest_number a us); parents = parents; change = change }

-- 32 members of a frontier: the last unsent update, where there is one, and the least of the others
abbrev pub merged_of : Option (List ℕ) → List (List ℕ) → List (List ℕ)
merged_of None F = take 32 F
merged_of (Some v) F = v ∷ take 31 (filter (λ (w : List ℕ). not (is_eq (id_cmp v w))) F)

-- the parents of a pure merge: these, in rising order
abbrev pub merge_parents : Option (List ℕ) → List (List ℕ) → List (List ℕ)
merge_parents last F = rising_ids (merged_of last F)

-- the pure merges after updates, oldest first, while their frontier has more than 32 members; at most n of them
abbrev pub merges_in : ℕ → List ℕ → Option (List ℕ) → List UpdateView → List UpdateView
merges_in zero a last us = []
merges_in (suc n) a last us = if nat_le (length (frontier us)) 32 then [] else
    (let m = next_in a us (merge_parents last (frontier us)) (Patches []) in m ∷ merges_in n a (Some m.id) (m ∷ us))

-- the identifier of the last update
abbrev pub last_id : List UpdateView → Option (List ℕ)
last_id [] = None
last_id (u ∷ []) = Some u.id
last_id (u ∷ w ∷ us) = last_id (w ∷ us)

-- the pure merges that a write makes first: as many as it takes until the frontier has at most 32 members
abbrev pub merges_of : ReplicaView → List UpdateView
merges_of r = merges_in (length (frontier (log_of r))) r.agent (last_id r.unsent) (log_of r)

-- the updates that a write adds: the pure merges, and the change at the frontier that they leave
abbrev pub additions : ReplicaView → Change → List UpdateView
additions r c =
    let us = reverse (merges_of r) ++ log_of r in
    merges_of r ++ next_in r.agent us (frontier us) c ∷ []

-- the pure merge that a replica's frontier is given next
abbrev pub next_merge : ReplicaView → UpdateView
next_merge r = next_in r.agent (log_of r) (merge_parents (last_id r.unsent) (frontier (log_of r))) (Patches [])

-- how many pure merges a frontier of this many members needs before it has at most 32: each takes 32 of them and leaves one
abbrev pub merges_needed : ℕ → ℕ
merges_needed width = (width - 2) / 31

-- how many updates a write adds, and how many numbers it takes: the pure merges, and one
abbrev pub updates_needed : ReplicaView → ℕ
updates_needed r = 1 + merges_needed (length (frontier (all_of r)))

-- the greatest number that the agent has after a write
abbrev pub last_number : ReplicaView → ℕ
last_number r = greatest_number r.agent (log_of r) + updates_needed r

-- what a write needs: its updates as versions, the elements and deletions of the change at the whole frontier, and the one identifier that it leaves in the frontier
abbrev pub write_needs : ReplicaView → Change → Room
write_needs r c =
    let need = needs_of (all_of r) (next_in r.agent (log_of r) (frontier (all_of r)) c) in
    record { versions = updates_needed r; elements = need.elements; deletions = need.deletions; width = 1 }

-- whether a change is written: it has its shape, it has a splice on the replica's text, the numbers suffice, and there is room
abbrev pub is_written : Room → ReplicaView → Change → Bool
is_written limits r c =
    is_change c
    && (is_some (spliced (text_of (all_of r)) c)
    && (nat_lt (last_number r) (2 ^ 64)
    && not (is_some (first_full (write_needs r c) (room_of limits (all_of r))))))

-- the replica with more unsent updates
abbrev pub with_unsent : ReplicaView → List UpdateView → ReplicaView
with_unsent r new = record { agent = r.agent; confirmed = r.confirmed; unsent = r.unsent ++ new }

-- what a write leaves
abbrev pub write : Room → ReplicaView → Change → ReplicaView
write limits r c = if is_written limits r c then with_unsent r (additions r c) else r

-- the text at a replica's frontier has a splice by the change
abbrev pub Fits : ReplicaView → Change → Type 0
Fits r c = IsShaped c × IsSome (spliced (text_of (all_of r)) c)

-- why a change is not written: the first of these, in this order. Memory may come for any change
abbrev pub IsWriteFault : Room → ReplicaView → Change → WriteFault → Type 0
IsWriteFault limits r c (Shape fault) = IsBuildFault [] c fault
IsWriteFault limits r c (OutOfRange patch len) =
    IsShaped c × (first_past (text_of (all_of r)) c ≡ Some patch) × (len ≡ length (text_of (all_of r)))
IsWriteFault limits r c NumbersSpent =
    Fits r c × (2 ^ 64 ≤ last_number r)
IsWriteFault limits r c (Full which limit) =
    Fits r c × (last_number r < 2 ^ 64)
    × ((n : ℕ) × (left : ℕ) × IsOver (write_needs r c) (room_of limits (all_of r)) which n left)
    × (limit ≡ limit_of limits which)
IsWriteFault limits r c Memory = Unit {0}

-- some pure merges were added, and nothing else; none where the change is not written
pub record AddsMerges (limits : Room) (r : ReplicaView) (c : Change) (q : ReplicaView) : Type 0 where
  pub count : ℕ
  pub added : q ≡ with_unsent r (take count (merges_of r))
  pub due : 0 < count → is_written limits r c ≡ true
