-- The heads among a replica's confirmed updates, as they are marked, and all that a replica keeps.
use Rattle.std.specs.Prelude.{◌≡◌, ◌↔◌, ℕ, List, Bool, Some, length, take, slice_get, Contains}
use Rattle.braid_ids.specs.MarkSets.{IsMarked}
use Rattle.braid_change.specs.Updates.{UpdateView}
use Rattle.braid_graph.specs.Entries.{GraphEntry, ids_of, Holds}
use Rattle.braid_graph.specs.Frontiers.{IsParent}
use Rattle.braid_text.specs.Histories.{graph_of}
use Rattle.braid_outbox.specs.Replicas.{log_of, greatest_number}
use Rattle.braid_outbox.specs.Kept.{picked, replica_in, IsKept}

-- an entry has the identifier, and none has it among its parents
abbrev pub IsHead : List GraphEntry → List ℕ → Type 0
IsHead es v = Holds es v × ¬ (IsParent es v)

-- this is the arrival number of one of these identifiers
abbrev pub IsNumberAmong : List GraphEntry → List (List ℕ) → ℕ → Type 0
IsNumberAmong es F n = (v : List ℕ) × Contains F v × (slice_get (ids_of es) n ≡ Some v)

-- marked are the arrival numbers of the heads among the confirmed updates
pub record MarksHeads (H : List UpdateView) (ns : List ℕ) (confirmed : ℕ) (heads : List Bool) : Type 0 where
  pub size : length heads ≡ length H
  pub exact : (n : ℕ) (u : UpdateView) → slice_get H n ≡ Some u
      → IsMarked heads n ↔ IsHead (graph_of (picked H (take confirmed ns))) u.id

-- all that a replica keeps: the updates with their numbers and flags, the marks of heads, and the greatest number of the agent's versions
pub record IsWhole (agent : List ℕ) (H : List UpdateView) (ns : List ℕ) (confirmed : ℕ) (flags heads : List Bool) (greatest : ℕ) : Type 0 where
  pub kept : IsKept agent H ns confirmed flags
  pub marks : MarksHeads H ns confirmed heads
  pub number : greatest ≡ greatest_number agent (log_of (replica_in agent H ns confirmed))
