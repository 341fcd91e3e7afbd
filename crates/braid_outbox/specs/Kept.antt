-- What a replica keeps: a resource of all its updates, and their arrival numbers in the order of its two lists.
use Rattle.std.specs.Prelude.{◌≡◌, ◌≤◌, ◌<◌, ◌↔◌, ℕ, List, [], ◌∷◌, Bool, Option, Some, None, length, take, drop, slice_get, Contains}
use Rattle.braid_ids.specs.MarkSets.{IsMarked}
use Rattle.braid_change.specs.Updates.{UpdateView}
use Rattle.braid_text.specs.Histories.{IsLegal, SameGraph, elements_of, deletions_of}
use Rattle.braid_outbox.specs.Replicas.{ReplicaView, IsSound}

-- an update, where there is one, before others
abbrev pub with_found : Option UpdateView → List UpdateView → List UpdateView
with_found None us = us
with_found (Some u) us = u ∷ us

-- the updates with these arrival numbers
abbrev pub picked : List UpdateView → List ℕ → List UpdateView
picked H [] = []
picked H (n ∷ ns) = with_found (slice_get H n) (picked H ns)

-- the replica whose first `confirmed` arrival numbers are those of the confirmed updates
abbrev pub replica_in : List ℕ → List UpdateView → List ℕ → ℕ → ReplicaView
replica_in agent H ns confirmed =
    record { agent = agent; confirmed = picked H (take confirmed ns); unsent = picked H (drop confirmed ns) }

-- the arrival numbers are those of all updates, the replica is sound, a flag says of each number whether it is that of a confirmed update, and there are not too many elements and deletions
pub record IsKept (agent : List ℕ) (H : List UpdateView) (ns : List ℕ) (confirmed : ℕ)
    (flags : List Bool) : Type 0 where
  pub legal : IsLegal H
  pub few : length H ≤ 524288
  pub within : (n : ℕ) → Contains ns n → n < length H
  pub counted : length ns ≡ length H
  pub all : SameGraph (picked H ns) H
  pub sound : IsSound (replica_in agent H ns confirmed)
  pub split : confirmed ≤ length ns
  pub size : length flags ≡ length H
  pub flagged : (n : ℕ) → IsMarked flags n ↔ Contains (take confirmed ns) n
  pub elements : length (elements_of H) ≤ 33554432
  pub deletions : length (deletions_of H) ≤ 67108864
