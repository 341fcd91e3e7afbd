-- What is sent of a path past a frontier, and cursors that give it one by one.
use Rattle.std.specs.Prelude.{◌≡◌, ◌↔◌, ℕ, ◌<◌, ◌≤◌, ◌-◌, List, [], ◌∷◌, Bool, Option, Some, None, length, take, drop, filter, slice_get}
use Rattle.braid_change.specs.Updates.{UpdateView}
use Rattle.braid_graph.specs.Entries.{HoldsAll}
use Rattle.braid_graph.specs.Ancestries.{IsAncestor}
use Rattle.braid_ids.specs.MarkSets.{IsMarked}
use Rattle.braid_text.specs.Histories.{graph_of}
use Rattle.braid_text.specs.Sent.{is_outside, sent}
use Rattle.braid_store.specs.declared.entry.Entry.{Entry}
use Rattle.braid_store.specs.Books.{of_path}

-- the updates of a path outside the ancestry of a frontier, of the first n entries of a book, in their order
abbrev pub sent_of : List Entry → List ℕ → List (List ℕ) → ℕ → List UpdateView
sent_of B path F n = sent (of_path (take n B) path) F

-- the updates outside the ancestry of a frontier that come behind the first n of a history
abbrev pub left_past : List UpdateView → List (List ℕ) → ℕ → List UpdateView
left_past H F n = filter (is_outside H F) (drop n H)

-- a cursor: its path, the frontier that it began at, the arrival numbers of that frontier's ancestry, and how many updates of the path it has passed
pub record CursorView : Type 0 where
  pub path : List ℕ
  pub from : List (List ℕ)
  pub marks : List Bool
  pub passed : ℕ

-- this is the arrival number of an update in the ancestry of a frontier
abbrev pub IsAncestorAt : List UpdateView → List (List ℕ) → ℕ → Type 0
IsAncestorAt H F n = (u : UpdateView) × (slice_get H n ≡ Some u) × IsAncestor (graph_of H) F u.id

-- a cursor fits a history: its frontier is held, marked are exactly the arrival numbers of that frontier's ancestry, and it has passed no more updates than there are
pub record FitsHistory (H : List UpdateView) (c : CursorView) : Type 0 where
  pub held : HoldsAll (graph_of H) c.from
  pub marked : (n : ℕ) → IsMarked c.marks n ↔ IsAncestorAt H c.from n
  pub within : c.passed ≤ length H

-- a cursor fits a book: it fits the history of its path
abbrev pub IsFit : List Entry → CursorView → Type 0
IsFit B c = FitsHistory (of_path B c.path) c

-- what is given past n updates, and how many are passed then: the first update that is left, up to and with it; or nothing, where nothing is left, and all of them
abbrev pub IsNext : List UpdateView → List (List ℕ) → ℕ → Option UpdateView → ℕ → Type 0
IsNext H F n None m = (left_past H F n ≡ []) × (m ≡ length H)
IsNext H F n (Some u) m = (left_past H F n ≡ u ∷ left_past H F m) × (n < m) × (slice_get H (m - 1) ≡ Some u)
