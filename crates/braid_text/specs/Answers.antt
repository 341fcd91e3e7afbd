-- The answer of a history to an update, and what the update needs.
use Rattle.std.specs.Prelude.{◌≡◌, ℕ, ◌<◌, ◌≤◌, List, length, reverse, Option, Some, Contains}
use Rattle.braid_change.specs.Updates.{UpdateView}
use Rattle.braid_change.specs.Splices.{first_past}
use Rattle.braid_graph.specs.Entries.{Holds, HoldsAll}
use Rattle.braid_graph.specs.Ancestries.{IsLeastUnheld}
use Rattle.braid_text.specs.Histories.{graph_of, MayFollow, text_at}
use Rattle.braid_text.specs.Refusals.{needs_in, room_in, refusal_in, answer_in}
use Rattle.braid_text.specs.declared.room.Room.{Room}
use Rattle.braid_text.specs.declared.room.Which.{Which}
use Rattle.braid_text.specs.declared.room.Which.TheVariants.{Resources, Versions, Elements, Deletions, Width}
use Rattle.braid_text.specs.declared.accept.Accept.{Accept}
use Rattle.braid_text.specs.declared.accept.Accept.TheVariants.{New, Known, Clash, UnknownParent, OutOfRange, Full, Memory}

-- what an update needs beside a history
abbrev pub needs_of : List UpdateView → UpdateView → Room
needs_of H u = needs_in (reverse H) u

-- what limits leave beside a history
abbrev pub room_of : Room → List UpdateView → Room
room_of limits H = room_in limits (reverse H)

-- the refusal of an update by a history, whatever room there is
abbrev pub refusal_to : List UpdateView → UpdateView → Option Accept
refusal_to H u = refusal_in (reverse H) u

-- the answer of a history with this room to an update
abbrev pub answer_to : Room → List UpdateView → UpdateView → Accept
answer_to room H u = answer_in room (reverse H) u

-- of this count, and of none before it in the order of `Which`, more is needed than there is room
abbrev pub IsOver : Room → Room → Which → ℕ → ℕ → Type 0
IsOver need room Resources n left = ⊥
IsOver need room Versions n left = (n ≡ need.versions) × (left ≡ room.versions) × (left < n)
IsOver need room Elements n left = (need.versions ≤ room.versions) × (n ≡ need.elements) × (left ≡ room.elements)
    × (left < n)
IsOver need room Deletions n left =
    (need.versions ≤ room.versions) × (need.elements ≤ room.elements) × (n ≡ need.deletions) × (left ≡ room.deletions)
    × (left < n)
IsOver need room Width n left =
    (need.versions ≤ room.versions) × (need.elements ≤ room.elements) × (need.deletions ≤ room.deletions)
    × (n ≡ need.width)
    × (left ≡ room.width) × (left < n)

-- there is room for all that is needed
pub record HasRoom (need room : Room) : Type 0 where
  pub versions : need.versions ≤ room.versions
  pub elements : need.elements ≤ room.elements
  pub deletions : need.deletions ≤ room.deletions
  pub width : need.width ≤ room.width

-- when each answer comes, of an update whose parents rise; Memory may come for any update that is not held
abbrev pub IsAnswer : Room → List UpdateView → UpdateView → Accept → Type 0
IsAnswer room H u New = MayFollow H u × HasRoom (needs_of H u) room
IsAnswer room H u Known = Contains H u
IsAnswer room H u (Clash v) = (v ≡ u.id) × Holds (graph_of H) v × ¬ (Contains H u)
IsAnswer room H u (UnknownParent v) = ¬ (Holds (graph_of H) u.id) × IsLeastUnheld (graph_of H) u.parents v
IsAnswer room H u (OutOfRange patch len) =
    ¬ (Holds (graph_of H) u.id) × HoldsAll (graph_of H) u.parents
    × (first_past (text_at H u.parents) u.change ≡ Some patch)
    × (len ≡ length (text_at H u.parents))
IsAnswer room H u (Full which need left) = MayFollow H u × IsOver (needs_of H u) room which need left
IsAnswer room H u Memory = ¬ (Contains H u)
