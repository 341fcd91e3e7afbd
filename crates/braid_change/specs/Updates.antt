-- What contracts see of an update, and which parts make one.
use Rattle.std.specs.Prelude.{◌≡◌, ℕ, ◌-◌, ◌^◌, ◌<◌, ◌≤◌, min, List, length, Some, None}
use Rattle.std.specs.List.{AllByRecursion}
use Rattle.braid_ids.specs.Identifiers.{IsIdentifier}
use Rattle.braid_ids.specs.Frontiers.{IsRising}
use Rattle.braid_change.specs.Changes.{patches_of, content_len, first_backwards, first_overlap, AreScalars, IsShaped}
use Rattle.braid_change.specs.declared.change.Change.{Change}
use Rattle.braid_change.specs.declared.update.BuildFault.{BuildFault}
use Rattle.braid_change.specs.declared.update.BuildFault.TheVariants.{TooManyParents, TooManyPatches, Backwards, Overlap, TooLong}

-- an update: its identifier, its parents in rising order and its change
pub record UpdateView : Type 0 where
  pub id : List ℕ
  pub parents : List (List ℕ)
  pub change : Change

-- at most 32 parents, and a change that has its shape; its texts are scalar values
pub record IsBuilt (parents : List (List ℕ)) (change : Change) : Type 0 where
  pub few_parents : length parents ≤ 32
  pub shaped : IsShaped change
  pub scalar : AreScalars change

-- an update that the program can hold: an identifier, parents that are identifiers in rising order, and a change in its shape
pub record IsUpdate (u : UpdateView) : Type 0 where
  pub identifier : IsIdentifier u.id
  pub identifiers : AllByRecursion IsIdentifier u.parents
  pub rising : IsRising u.parents
  pub built : IsBuilt u.parents u.change

-- the fault of parts that make no update: the first of these, in this order
abbrev pub IsBuildFault : List (List ℕ) → Change → BuildFault → Type 0
IsBuildFault parents change (TooManyParents n) = (32 < length parents) × (n ≡ length parents)
IsBuildFault parents change (TooManyPatches n) =
    (length parents ≤ 32) × (1_000 < length (patches_of change)) × (n ≡ length (patches_of change))
IsBuildFault parents change (Backwards n) =
    (length parents ≤ 32) × (length (patches_of change) ≤ 1_000) × (first_backwards (patches_of change) ≡ Some n)
IsBuildFault parents change (Overlap n) =
    (length parents ≤ 32) × (length (patches_of change) ≤ 1_000) × (first_backwards (patches_of change) ≡ None)
    × (first_overlap (patches_of change) ≡ Some n)
IsBuildFault parents change (TooLong bytes) =
    (length parents ≤ 32) × (length (patches_of change) ≤ 1_000) × (first_backwards (patches_of change) ≡ None)
    × (first_overlap (patches_of change) ≡ None) × (1_048_576 < content_len change)
    × (bytes ≡ min (content_len change) (2 ^ 64 - 1))
