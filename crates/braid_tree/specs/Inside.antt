-- What a document of rows keeps, and how contracts see it.
use Rattle.std.specs.Prelude.{◌≡◌, ℕ, zero, suc, ◌+◌, ◌-◌, ◌<◌, ◌≤◌, ◌^◌, List, [], ◌∷◌, Bool, false, Option, Some, None, All, if◌then◌else◌, length, map, min, slice_get, IsSomeAnd, IfSome}
use Rattle.std.specs.declared.cmp.Ordering.TheVariants.{Less}
use Rattle.braid_tree.specs.Keys.{key_cmp}
use Rattle.braid_tree.specs.Rows.{Stamp, Row, RowDeletion, DocumentRoom, HasPlace, AreKnown, key_at, place}
use Rattle.braid_tree.specs.Seen.{is_same_place}
use Rattle.braid_tree.specs.declared.at.At.{At}
use Rattle.braid_tree.specs.declared.version.PlainVersion.{PlainVersion}
use Rattle.braid_tree.specs.declared.row.PlainRow.{PlainRow}
use Rattle.braid_tree.specs.declared.deletion.PlainDeletion.{PlainDeletion}

-- what contracts see of a document of rows
pub record PlainView : Type 0 where
  pub stamps : List Stamp
  pub rows : List Row
  pub deletions : List RowDeletion
  pub room : DocumentRoom

abbrev pub stamp_of : PlainVersion → Stamp
stamp_of v = record { id = v.id; level = v.level }

abbrev pub stamps_in : List PlainVersion → List Stamp
stamps_in vs = map stamp_of vs

abbrev pub row_of : PlainRow → Row
row_of r = record { at = r.at; char = r.character; origin = r.origin }

abbrev pub rows_in : List PlainRow → List Row
rows_in rows = map row_of rows

abbrev pub deletion_of : PlainDeletion → RowDeletion
deletion_of x = record { at = x.at; by = x.by }

abbrev pub deletions_in : List PlainDeletion → List RowDeletion
deletions_in xs = map deletion_of xs

-- how many more fit into this capacity and are still counted by 32 bits
abbrev pub free_in : ℕ → ℕ → ℕ
free_in capacity len = min (capacity - len) (4294967295 - len)

-- the row number k is that of the place
abbrev pub IsPlaceOf : List Row → At → ℕ → Type 0
IsPlaceOf rows at k = IsSomeAnd (slice_get rows k) (λ (r : Row). r.at ≡ at)

-- no row from number n on is that of the place
abbrev pub IsBefore : List Row → At → ℕ → Type 0
IsBefore rows at n = (k : ℕ) → n ≤ k → ¬ (IsPlaceOf rows at k)

-- row number k, if there is one, has a greater key than `first`
abbrev pub IsPassed : List Stamp → List Row → At → ℕ → Type 0
IsPassed vs rows first k = IfSome (slice_get rows k) (λ (r : Row). key_cmp (key_at vs first) (key_at vs r.at) ≡ Less)

-- row number k, if there is one, has no greater key
abbrev pub IsNotPassed : List Stamp → List Row → At → ℕ → Type 0
IsNotPassed vs rows first k =
    IfSome (slice_get rows k) (λ (r : Row). ¬ (key_cmp (key_at vs first) (key_at vs r.at) ≡ Less))

-- the rows of a run as they are kept: nothing deletes them yet
abbrev pub new_rows : ℕ → Option At → ℕ → List ℕ → List PlainRow
new_rows version origin n [] = []
new_rows version origin n (c ∷ cs) =
    record { at = place version n; character = c; origin = origin; newest = None }
    ∷ new_rows version (Some (place version n)) (n + 1) cs

-- a deletion that is there is one of the place
abbrev pub is_of_place : Option RowDeletion → At → Bool
is_of_place None at = false
is_of_place (Some d) at = is_same_place d.at at

-- the number of the last of the first n deletions that is one of the place
abbrev pub last_below : List RowDeletion → ℕ → At → Option ℕ
last_below ds zero at = None
last_below ds (suc n) at = if is_of_place (slice_get ds n) at then Some n else last_below ds n at

-- each deletion leads to the one before it of the same place
pub record AreLinked (xs : List PlainDeletion) : Type 0 where
  pub earlier : (k : ℕ) (x : PlainDeletion) → slice_get xs k ≡ Some x → x.earlier ≡ last_below (deletions_in xs) k x.at

-- a row leads to the last deletion of its place
abbrev pub IsNewest : List PlainDeletion → PlainRow → Type 0
IsNewest xs r = r.newest ≡ last_below (deletions_in xs) (length xs) r.at

-- no two rows have one place
abbrev pub HaveOwnPlaces : List Row → Type 0
HaveOwnPlaces [] = Unit {0}
HaveOwnPlaces (r ∷ rows) = ¬ (HasPlace rows r.at) × HaveOwnPlaces rows

-- versions, rows and deletions that fit together
pub record IsKept (vs : List PlainVersion) (rows : List PlainRow) (xs : List PlainDeletion) : Type 0 where
  pub known : AreKnown (stamps_in vs) (rows_in rows)
  pub own_places : HaveOwnPlaces (rows_in rows)
  pub listed : All (λ (d : RowDeletion). HasPlace (rows_in rows) d.at) (deletions_in xs)
  pub linked : AreLinked xs
  pub newest : All (IsNewest xs) rows
  pub few_versions : length vs < 2 ^ 32
  pub few_rows : length rows < 2 ^ 32
  pub few_deletions : length xs < 2 ^ 32
