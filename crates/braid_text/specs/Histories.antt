-- Histories: lists of updates, oldest first. Their graph, which of them are legal, their document, and what is read at a frontier.
-- A name in `_at`, `_of` or `_to` is of a history. Beneath it stands one in `_in`, of lists that stand newest first, so that one
-- more update is put in front: `Versions` and `Refusals` have those, and a law says each in the words of `H ++ u ∷ []`.
use Rattle.std.specs.Prelude.{◌≡◌, ◌↔◌, ℕ, List, [], ◌∷◌, map, reverse, IsSome, Contains}
use Rattle.braid_ids.specs.Identifiers.{IsIdentifier}
use Rattle.braid_ids.specs.Frontiers.{IsRising}
use Rattle.braid_change.specs.Updates.{UpdateView, IsBuilt}
use Rattle.braid_change.specs.Splices.{spliced}
use Rattle.braid_graph.specs.Entries.{GraphEntry, Holds, HoldsAll}
use Rattle.braid_graph.specs.Frontiers.{frontier_of}
use Rattle.braid_tree.specs.Keys.{Key}
use Rattle.braid_tree.specs.Nodes.{Node}
use Rattle.braid_tree.specs.Elements.{Element}
use Rattle.braid_text.specs.Versions.{Version, Deletion, ancestors_in, document_in, seen_in, text_in, version_in, versions_in, elements_in, deletions_in}

-- an update's entry in the graph: its identifier and its parents
abbrev pub entry_of : UpdateView → GraphEntry
entry_of u = record { id = u.id; parents = u.parents }

-- the version graph of updates, in their order
abbrev pub graph_of : List UpdateView → List GraphEntry
graph_of us = map entry_of us

-- two histories have the same updates, in whatever order
abbrev pub SameGraph : List UpdateView → List UpdateView → Type 0
SameGraph H K = (u : UpdateView) → Contains H u ↔ Contains K u

-- no two updates of the histories differ under one identifier
abbrev pub AreCompatible : List UpdateView → List UpdateView → Type 0
AreCompatible H K = (u w : UpdateView) → Contains H u → Contains K w → u.id ≡ w.id → u ≡ w

-- an update may follow a list of updates, newest first: its identifier is new, its parents are there, it is built, and its change has a splice on the text at them
pub record Follows (us : List UpdateView) (u : UpdateView) : Type 0 where
  pub new : ¬ (Holds (graph_of us) u.id)
  pub named : IsIdentifier u.id
  pub parents_held : HoldsAll (graph_of us) u.parents
  pub rising : IsRising u.parents
  pub built : IsBuilt u.parents u.change
  pub fits : IsSome (spliced (text_in (versions_in us) u.parents) u.change)

-- each update may follow those before it; newest first
abbrev pub IsLegalLog : List UpdateView → Type 0
IsLegalLog [] = Unit {0}
IsLegalLog (u ∷ us) = Follows us u × IsLegalLog us

-- an update may follow a history
abbrev pub MayFollow : List UpdateView → UpdateView → Type 0
MayFollow H u = Follows (reverse H) u

-- each update of a history may follow those before it
abbrev pub IsLegal : List UpdateView → Type 0
IsLegal H = IsLegalLog (reverse H)

-- what a history has of its versions, newest first
abbrev pub versions_at : List UpdateView → List Version
versions_at H = versions_in (reverse H)

-- what an update adds to a history
abbrev pub added_by : List UpdateView → UpdateView → Version
added_by H u = version_in u (versions_at H)

-- all nodes of a history in reading order, the deleted ones too
abbrev pub document_of : List UpdateView → List (Node Key)
document_of H = document_in (versions_at H)

-- the versions that are in the ancestry of a frontier, newest first
abbrev pub ancestors_at : List UpdateView → List (List ℕ) → List Version
ancestors_at H F = ancestors_in (versions_at H) F

-- the nodes that are seen at a frontier, in reading order
abbrev pub seen_at : List UpdateView → List (List ℕ) → List (Node Key)
seen_at H F = seen_in (versions_at H) F

-- what is read at a frontier
abbrev pub text_at : List UpdateView → List (List ℕ) → List ℕ
text_at H F = text_in (versions_at H) F

-- what is read at the frontier of all updates
abbrev pub text_of : List UpdateView → List ℕ
text_of H = text_at H (frontier_of (graph_of H))

-- the elements of a history, in order of arrival
abbrev pub elements_of : List UpdateView → List Element
elements_of H = elements_in (versions_at H)

-- the deletions of a history, in order of arrival
abbrev pub deletions_of : List UpdateView → List Deletion
deletions_of H = deletions_in (versions_at H)
