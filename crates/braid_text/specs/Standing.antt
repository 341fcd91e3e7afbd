-- What a resource keeps: a graph and a document that stand for its history.
use Rattle.std.specs.Prelude.{◌≡◌, ℕ, ◌<◌, ◌≤◌, ◌+◌, List, map, reverse, length}
use Rattle.std.specs.List.{Contains}
use Rattle.std.specs.List.Sorted.{IsPermutation}
use Rattle.braid_change.specs.Updates.{UpdateView}
use Rattle.braid_graph.specs.Entries.{GraphEntry}
use Rattle.braid_graph.specs.Levels.{greatest_by, level_of}
use Rattle.braid_rebase.specs.Resolved.{IsSeenAt, IsResolved}
use Rattle.braid_rebase.specs.declared.resolving.Resolved.{Resolved}
use Rattle.braid_tree.specs.Elements.{element_of}
use Rattle.braid_tree.specs.Rows.{Stamp, Row, AreKnown, element_at, key_at, place}
use Rattle.braid_tree.specs.Rows.{RowDeletion}
use Rattle.braid_spans.specs.Spans.{SpanView, spelled, rows_of}
use Rattle.braid_spans.specs.Spans.{deletions_of as run_deletions_of}
use Rattle.braid_text.specs.Versions.{Version, Deletion}
use Rattle.braid_text.specs.Histories.{graph_of, versions_at, document_of, deletions_of, IsLegal, MayFollow}

-- the elements of a document of runs, in reading order
abbrev pub rows_in : SpanView → List Row
rows_in d = rows_of (spelled d.runs)

-- and what deletes them
abbrev pub row_deletions_in : SpanView → List RowDeletion
row_deletions_in d = run_deletions_of (spelled d.runs)

abbrev pub stamp_in : Version → Stamp
stamp_in v = record { id = v.id; level = v.level }

-- the versions of a history as a document knows them, in order of arrival
abbrev pub stamps_of : List UpdateView → List Stamp
stamps_of H = map stamp_in (reverse (versions_at H))

-- the identifier of the version with this arrival number
abbrev pub id_at : List Stamp → ℕ → List ℕ
id_at vs n = (key_at vs (place n 0)).id

-- the deletion that a document's deletion stands for
abbrev pub named_deletion : List Stamp → RowDeletion → Deletion
named_deletion vs d = record { key = key_at vs d.at; by = id_at vs d.by }

-- the versions of a deletion's element and of the deletion are there
abbrev pub IsKnownDeletion : List Stamp → RowDeletion → Type 0
IsKnownDeletion vs d = (d.at.version < length vs) × (d.by < length vs)

-- the graph is that of the history, which is legal and has few versions, and the document lists its versions, its nodes in reading order, and its deletions in whatever order
pub record Stands (H : List UpdateView) (es : List GraphEntry) (vs : List Stamp) (rows : List Row)
    (ds : List RowDeletion) : Type 0 where
  pub legal : IsLegal H
  pub few : length H ≤ 524288
  pub graph : es ≡ graph_of H
  pub stamps : vs ≡ stamps_of H
  pub listed : map (element_at vs) rows ≡ map element_of (document_of H)
  pub deleted : IsPermutation (map (named_deletion vs) ds) (deletions_of H)
  pub known : AreKnown vs rows
  pub known_deletions : (d : RowDeletion) → Contains ds d → IsKnownDeletion vs d

-- an update may follow, and this is what it was resolved to
pub record IsTakable (H : List UpdateView) (ds : List RowDeletion) (rows : List Row) (u : UpdateView)
    (resolved : Resolved) : Type 0 where
  pub follows : MayFollow H u
  pub seen : (S : List Row) × IsSeenAt (graph_of H) u.parents ds rows S × IsResolved S u.change resolved
  pub level : resolved.level ≡ 1 + greatest_by (level_of (graph_of H)) u.parents
