-- Books: lists of entries in order of arrival. The paths of a book, the history of each, and what is counted of a book.
use Rattle.std.specs.Prelude.{ℕ, List, [], ◌∷◌, Bool, not, map, filter, length, nat_eq}
use Rattle.std.specs.List.{sum_by}
use Rattle.std.specs.Cmp.Lexicographic.{pointwise}
use Rattle.braid_change.specs.Updates.{UpdateView}
use Rattle.braid_graph.specs.Frontiers.{frontier_of}
use Rattle.braid_text.specs.Histories.{graph_of, elements_of, deletions_of, IsLegal}
use Rattle.braid_store.specs.declared.entry.Entry.{Entry}

-- whether two paths are the same
abbrev pub same_path : List ℕ → List ℕ → Bool
same_path p q = pointwise nat_eq p q

-- the entries of a path, in their order
abbrev pub entries_of : List Entry → List ℕ → List Entry
entries_of B p = filter (λ (e : Entry). same_path p e.path) B

-- the history of a path: the updates of its entries
abbrev pub of_path : List Entry → List ℕ → List UpdateView
of_path B p = map (λ (e : Entry). e.update) (entries_of B p)

-- the paths of a book, each once, in the order in which they came
abbrev pub paths_of : List Entry → List (List ℕ)
paths_of [] = []
paths_of (e ∷ B) = e.path ∷ filter (λ (p : List ℕ). not (same_path p e.path)) (paths_of B)

-- each path has a legal history
abbrev pub IsLegalBook : List Entry → Type 0
IsLegalBook B = (p : List ℕ) → IsLegal (of_path B p)

-- the sum of a number of each path's history
abbrev pub sum_of : (List UpdateView → ℕ) → List Entry → ℕ
sum_of number B = sum_by (λ (p : List ℕ). number (of_path B p)) (paths_of B)

-- what is counted of a book: its resources, and its versions, elements and deletions over all paths together; and the identifiers in the frontier of one path
pub record Counts : Type 0 where
  pub resources : ℕ
  pub versions : ℕ
  pub elements : ℕ
  pub deletions : ℕ
  pub width : ℕ

-- the counts of a book, with the width of this path
abbrev pub counts_at : List Entry → List ℕ → Counts
counts_at B p = record {
  resources = length (paths_of B);
  versions = length B;
  elements = sum_of (λ (H : List UpdateView). length (elements_of H)) B;
  deletions = sum_of (λ (H : List UpdateView). length (deletions_of H)) B;
  width = length (frontier_of (graph_of (of_path B p)));
}
