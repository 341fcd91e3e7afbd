-- A replica as it is seen, when it is sound, where it resumes, and the numbers of its agent's versions.
use Rattle.std.specs.Prelude.{ℕ, List, [], ◌∷◌, ◌++◌, ◌+◌, ◌^◌, max, nat_lt, length, take, drop, reverse, ◌&&◌, if◌then◌else◌, Option, Some, None, unwrap_or, Contains}
use Rattle.std.specs.Ordering.{is_eq}
use Rattle.std.specs.Str.Parse.{digits_value}
use Rattle.braid_ids.specs.Identifiers.{id_cmp}
use Rattle.braid_ids.specs.Agents.{agent_name}
use Rattle.braid_change.specs.Updates.{UpdateView}
use Rattle.braid_graph.specs.Frontiers.{frontier_of}
use Rattle.braid_text.specs.Histories.{graph_of, IsLegal}
use Rattle.braid_text.specs.declared.room.Room.{Room}
use Rattle.braid_text.specs.Rooms.{replica_limits}

-- an agent, its confirmed updates and its unsent ones, oldest first
pub record ReplicaView : Type 0 where
  pub agent : List ℕ
  pub confirmed : List UpdateView
  pub unsent : List UpdateView

-- all updates of a replica: the confirmed ones, then the unsent ones
abbrev pub all_of : ReplicaView → List UpdateView
all_of r = r.confirmed ++ r.unsent

-- the same, newest first
abbrev pub log_of : ReplicaView → List UpdateView
log_of r = reverse (all_of r)

-- the first of these updates, if there is one, names the identifier among its parents
abbrev pub Names : List ℕ → List UpdateView → Type 0
Names v [] = Unit {0}
Names v (u ∷ us) = Contains u.parents v

-- each update after the first names the one before it among its parents
abbrev pub IsChained : List UpdateView → Type 0
IsChained [] = Unit {0}
IsChained (u ∷ us) = Names u.id us × IsChained us

-- all updates are a legal history, and each unsent one after the first names the one before it
pub record IsSound (r : ReplicaView) : Type 0 where
  pub legal : IsLegal (all_of r)
  pub chained : IsChained r.unsent

-- the frontier of updates, in whatever order they stand: the identifiers that are no update's parent, in rising order
abbrev pub frontier : List UpdateView → List (List ℕ)
frontier us = frontier_of (graph_of us)

-- where a replica resumes: the frontier of its confirmed updates, or the 32 least of it
abbrev pub resume_of : ReplicaView → List (List ℕ)
resume_of r = take 32 (frontier r.confirmed)

-- the number of the agent's version whose identifier this is, where it is one
abbrev pub number : List ℕ → List ℕ → Option ℕ
number a v =
    let k = digits_value 10 (drop (length a + 1) v) in
    if nat_lt 0 k && (nat_lt k (2 ^ 64) && is_eq (id_cmp v (agent_name a k))) then Some k else None

-- the greatest number of the agent's versions among updates, 0 of none
abbrev pub greatest_number : List ℕ → List UpdateView → ℕ
greatest_number a [] = 0
greatest_number a (u ∷ us) = max (unwrap_or (number a u.id) 0) (greatest_number a us)

-- the limits of a replica but for the width, and this limit of the width
abbrev pub limits_with : ℕ → Room
limits_with width = record replica_limits { width = width }
