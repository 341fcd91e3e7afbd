-- Runs of characters as contracts see them, and the elements that they stand for.
use Rattle.std.specs.Prelude.{ℕ, ◌+◌, List, [], ◌∷◌, Option, Some, map}
use Rattle.std.specs.List.{flat_map}
use Rattle.braid_tree.specs.Rows.{Stamp, Row, RowDeletion, DocumentRoom, place}
use Rattle.braid_tree.specs.declared.at.At.{At}

-- neighbouring elements in reading order, of one version and with rising ordinals, each after the first with the one before
-- it as its origin, and all deleted by the same versions, those that came last first
pub record Span : Type 0 where
  pub first : At
  pub origin : Option At
  pub text : List ℕ
  pub by : List ℕ

-- an element with the versions that delete it
pub record Spelled : Type 0 where
  pub row : Row
  pub by : List ℕ

-- the elements of a run of characters, each further one with the one before it as its origin
abbrev pub spell : List ℕ → ℕ → Option At → ℕ → List ℕ → List Spelled
spell by version origin n [] = []
spell by version origin n (c ∷ cs) =
    record { row = record { at = place version n; char = c; origin = origin }; by = by }
    ∷ spell by version (Some (place version n)) (n + 1) cs

-- the elements of a run
abbrev pub spelled_span : Span → List Spelled
spelled_span s = spell s.by s.first.version s.origin s.first.ordinal s.text

-- the elements of runs, one run after the other
abbrev pub spelled : List Span → List Spelled
spelled spans = flat_map spelled_span spans

abbrev pub row_in : Spelled → Row
row_in e = e.row

abbrev pub rows_of : List Spelled → List Row
rows_of es = map row_in es

-- that a version deletes the element at a place
abbrev pub deletion_by : ℕ → At → RowDeletion
deletion_by n at = record { at = at; by = n }

-- what deletes the element at a place
abbrev pub deletions_at : At → List ℕ → List RowDeletion
deletions_at at by = map (λ (n : ℕ). record { at = at; by = n }) by

abbrev pub deletions_in : Spelled → List RowDeletion
deletions_in e = deletions_at e.row.at e.by

-- what deletes elements, one element after the other
abbrev pub deletions_of : List Spelled → List RowDeletion
deletions_of es = flat_map deletions_in es

-- what contracts see of a document of runs
pub record SpanView : Type 0 where
  pub stamps : List Stamp
  pub runs : List Span
  pub room : DocumentRoom
