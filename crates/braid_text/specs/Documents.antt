-- What the document of a history is, and what of it is seen at a frontier.
use Rattle.std.specs.Prelude.{◌≡◌, ◌↔◌, ℕ, List, Contains}
use Rattle.braid_change.specs.Updates.{UpdateView}
use Rattle.braid_graph.specs.Ancestries.{IsAncestor}
use Rattle.braid_tree.specs.Keys.{Key, key_cmp}
use Rattle.braid_tree.specs.Nodes.{Node, IsReading}
use Rattle.braid_text.specs.Versions.{Version, Deletion}
use Rattle.braid_text.specs.Histories.{graph_of, versions_at, document_of, deletions_of}

-- some version of the history inserts the node
abbrev pub IsInserted : List UpdateView → Node Key → Type 0
IsInserted H x = (v : Version) × Contains (versions_at H) v × Contains v.nodes x

-- the nodes that the history's versions insert, and no others, in reading order
pub record IsDocument (H : List UpdateView) (d : List (Node Key)) : Type 0 where
  pub reading : IsReading key_cmp d
  pub exact : (x : Node Key) → Contains d x ↔ IsInserted H x

-- the node is in the document, its version is in the ancestry of the frontier, and no version of the ancestry deletes it
pub record IsSeen (H : List UpdateView) (F : List (List ℕ)) (x : Node Key) : Type 0 where
  pub listed : Contains (document_of H) x
  pub inserted : IsAncestor (graph_of H) F x.key.id
  pub kept : (d : Deletion) → Contains (deletions_of H) d → d.key ≡ x.key → ¬ (IsAncestor (graph_of H) F d.by)
