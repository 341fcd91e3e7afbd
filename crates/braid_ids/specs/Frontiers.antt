-- What a frontier is: identifiers that rise by their bytes; and identifiers put in rising order.
use Rattle.std.specs.Prelude.{◌<◌, ◌^◌, ℕ, List, [], ◌∷◌, if◌then◌else◌, length}
use Rattle.std.specs.Ordering.{is_lt, is_eq}
use Rattle.std.specs.List.{AllByRecursion}
use Rattle.std.specs.List.Sorted.{IsStrictlySortedBy}
use Rattle.braid_ids.specs.Identifiers.{IsIdentifier, id_cmp}

-- each identifier is below all later ones, byte by byte
abbrev pub IsRising : List (List ℕ) → Type 0
IsRising ids = IsStrictlySortedBy id_cmp ids

-- a finite set of identifiers, written in rising order
pub record IsFrontier (ids : List (List ℕ)) : Type 0 where
  pub identifiers : AllByRecursion IsIdentifier ids
  pub rising : IsRising ids
  pub counted : length ids < 2 ^ 32

-- an identifier put among others in rising order, once
abbrev pub with_id : List ℕ → List (List ℕ) → List (List ℕ)
with_id v [] = v ∷ []
with_id v (w ∷ ws) = if is_lt (id_cmp v w) then v ∷ w ∷ ws
    else (if is_eq (id_cmp v w) then w ∷ ws else w ∷ with_id v ws)

-- identifiers in rising order, each once
abbrev pub rising_ids : List (List ℕ) → List (List ℕ)
rising_ids [] = []
rising_ids (v ∷ vs) = with_id v (rising_ids vs)
