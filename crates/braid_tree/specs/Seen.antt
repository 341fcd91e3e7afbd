-- What marked versions see of a document.
use Rattle.std.specs.Prelude.{◌≡◌, ℕ, List, Bool, not, ◌&&◌, ◌==◌, filter, Contains}
use Rattle.std.specs.List.{list_any}
use Rattle.braid_ids.specs.MarkSets.{has_mark, IsMarked}
use Rattle.braid_tree.specs.Rows.{Row, RowDeletion}
use Rattle.braid_tree.specs.declared.at.At.{At}

abbrev pub is_same_place : At → At → Bool
is_same_place a b = (a.version == b.version) && (a.ordinal == b.ordinal)

-- the deletion is one of the place, by a marked version
abbrev pub is_marked_deletion : List Bool → At → RowDeletion → Bool
is_marked_deletion marks at deletion = is_same_place deletion.at at && has_mark marks deletion.by

-- a marked version deletes the element at the place
abbrev pub is_deleted_by : List Bool → List RowDeletion → At → Bool
is_deleted_by marks deletions at = list_any (is_marked_deletion marks at) deletions

-- the row's version is marked, and no marked version deletes its element
abbrev pub is_seen_by : List Bool → List RowDeletion → Row → Bool
is_seen_by marks deletions row = has_mark marks row.at.version && not (is_deleted_by marks deletions row.at)

-- the rows of the elements that marked versions see, in their order
abbrev pub seen_rows : List Bool → List RowDeletion → List Row → List Row
seen_rows marks deletions rows = filter (is_seen_by marks deletions) rows

abbrev pub place_in : Row → At
place_in row = row.at

abbrev pub char_in : Row → ℕ
char_in row = row.char

-- a marked version deletes the element at the place: as a fact
abbrev pub Deletes : List Bool → List RowDeletion → At → Type 0
Deletes marks deletions at = (d : RowDeletion) × Contains deletions d × (d.at ≡ at) × IsMarked marks d.by
