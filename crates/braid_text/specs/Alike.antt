-- What two histories of the same updates agree on.
use Rattle.std.specs.Prelude.{◌≡◌, ◌↔◌, ℕ, List, Contains}
use Rattle.braid_change.specs.Updates.{UpdateView}
use Rattle.braid_graph.specs.Entries.{HoldsAll}
use Rattle.braid_graph.specs.Frontiers.{frontier_of}
use Rattle.braid_tree.specs.Elements.{Element}
use Rattle.braid_text.specs.Versions.{Version, Deletion}
use Rattle.braid_text.specs.Histories.{graph_of, versions_at, document_of, seen_at, elements_of, deletions_of}
use Rattle.braid_text.specs.Answers.{needs_of, room_of, answer_to}
use Rattle.braid_text.specs.declared.room.Room.{Room}

-- the histories have the same versions, elements and deletions, one document and one frontier, see the same, leave the same room, and answer alike
pub record AreAlike (H K : List UpdateView) : Type 0 where
  pub versions : (v : Version) → Contains (versions_at H) v ↔ Contains (versions_at K) v
  pub elements : (e : Element) → Contains (elements_of H) e ↔ Contains (elements_of K) e
  pub deletions : (d : Deletion) → Contains (deletions_of H) d ↔ Contains (deletions_of K) d
  pub document : document_of H ≡ document_of K
  pub frontier : frontier_of (graph_of H) ≡ frontier_of (graph_of K)
  pub seen : (F : List (List ℕ)) → HoldsAll (graph_of H) F → seen_at H F ≡ seen_at K F
  pub room : (limits : Room) → room_of limits H ≡ room_of limits K
  pub needs : (u : UpdateView) → HoldsAll (graph_of H) u.parents → needs_of H u ≡ needs_of K u
  pub answers : (room : Room) (u : UpdateView) → answer_to room H u ≡ answer_to room K u
