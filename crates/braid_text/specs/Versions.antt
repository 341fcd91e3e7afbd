-- What a history says of its versions: their levels, nodes, deletions and ancestry, and what is seen at a frontier.
-- Lists of updates and of versions stand newest first here; `Histories` says the same of histories.
use Rattle.std.specs.Prelude.{ℕ, ◌+◌, max, List, [], ◌∷◌, ◌++◌, filter, Bool, false, not, ◌&&◌, ◌||◌, if◌then◌else◌, map}
use Rattle.std.specs.Ordering.{is_eq}
use Rattle.braid_ids.specs.Identifiers.{id_cmp}
use Rattle.braid_change.specs.Updates.{UpdateView}
use Rattle.braid_graph.specs.Entries.{has_id}
use Rattle.braid_tree.specs.Keys.{Key, key_cmp}
use Rattle.braid_tree.specs.Nodes.{Node, with_nodes}
use Rattle.braid_tree.specs.Elements.{Element, element_of}
use Rattle.braid_rebase.specs.Additions.{has_key, chars_of, added_nodes, deleted_keys}

-- what a history has of one version: its level, the nodes that it inserts and the keys that it deletes
pub record Version : Type 0 where
  pub id : List ℕ
  pub parents : List (List ℕ)
  pub level : ℕ
  pub nodes : List (Node Key)
  pub deleted : List Key

-- whether an identifier is one of these versions'
abbrev pub has_version : List ℕ → List Version → Bool
has_version i [] = false
has_version i (v ∷ vs) = is_eq (id_cmp i v.id) || has_version i vs

-- whether one of these versions deletes the key
abbrev pub deletes : Key → List Version → Bool
deletes k [] = false
deletes k (v ∷ vs) = has_key k v.deleted || deletes k vs

-- the versions that are in the ancestry of a frontier
abbrev pub ancestors_in : List Version → List (List ℕ) → List Version
ancestors_in [] F = []
ancestors_in (v ∷ vs) F = if has_id v.id F then v ∷ ancestors_in vs (v.parents ++ F) else ancestors_in vs F

-- the greatest level of the versions of a frontier, 0 of none
abbrev pub greatest_level : List Version → List (List ℕ) → ℕ
greatest_level [] F = 0
greatest_level (v ∷ vs) F = if has_id v.id F then max v.level (greatest_level vs F) else greatest_level vs F

-- all nodes in reading order
abbrev pub document_in : List Version → List (Node Key)
document_in [] = []
document_in (v ∷ vs) = with_nodes key_cmp v.nodes (document_in vs)

-- whether versions see a node: one of them inserted it, and none deletes it
abbrev pub sees : List Version → Node Key → Bool
sees vs x = has_version x.key.id vs && not (deletes x.key vs)

-- the nodes that the ancestry of a frontier sees, in reading order
abbrev pub seen_in : List Version → List (List ℕ) → List (Node Key)
seen_in vs F = filter (sees (ancestors_in vs F)) (document_in vs)

-- what is read at a frontier: the characters of the nodes seen
abbrev pub text_in : List Version → List (List ℕ) → List ℕ
text_in vs F = chars_of (seen_in vs F)

-- what an update adds to the versions before it: one level above its highest parent, by what its parents see
abbrev pub version_in : UpdateView → List Version → Version
version_in u vs =
    let S = seen_in vs u.parents in
    let level = 1 + greatest_level vs u.parents in
    record {
      id = u.id;
      parents = u.parents;
      level = level;
      nodes = added_nodes level u.id S u.change;
      deleted =
          deleted_keys S u.change;
    }

-- the versions of updates
abbrev pub versions_in : List UpdateView → List Version
versions_in [] = []
versions_in (u ∷ us) = let vs = versions_in us in version_in u vs ∷ vs

-- a deletion: the key of the deleted element, and the identifier of the version that deletes it
pub record Deletion : Type 0 where
  pub key : Key
  pub by : List ℕ

-- the elements that a version inserts, in the order of their ordinals
abbrev pub elements_by : Version → List Element
elements_by v = map element_of v.nodes

-- the deletions of a version
abbrev pub deletions_by : Version → List Deletion
deletions_by v = map (λ (k : Key). record { key = k; by = v.id }) v.deleted

-- the elements of versions, those of the oldest first
abbrev pub elements_in : List Version → List Element
elements_in [] = []
elements_in (v ∷ vs) = elements_in vs ++ elements_by v

-- the deletions of versions, those of the oldest first
abbrev pub deletions_in : List Version → List Deletion
deletions_in [] = []
deletions_in (v ∷ vs) = deletions_in vs ++ deletions_by v
