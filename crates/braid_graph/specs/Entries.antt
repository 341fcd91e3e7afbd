-- The entries of a version graph, and what makes a list of them a history.
use Rattle.std.specs.Prelude.{◌≡◌, ◌↔◌, ℕ, List, [], ◌∷◌, Bool, false, ◌||◌, Some, map, take, slice_get, Contains}
use Rattle.std.specs.Ordering.{is_eq}
use Rattle.braid_ids.specs.Identifiers.{id_cmp}

-- a version: its identifier, and the identifiers of its parents
pub record GraphEntry : Type 0 where
  pub id : List ℕ
  pub parents : List (List ℕ)

-- the identifiers of entries, in their order
abbrev pub ids_of : List GraphEntry → List (List ℕ)
ids_of es = map (λ (e : GraphEntry). e.id) es

-- an entry has this identifier
abbrev pub Holds : List GraphEntry → List ℕ → Type 0
Holds es v = Contains (ids_of es) v

-- each of these identifiers is an entry's
abbrev pub HoldsAll : List GraphEntry → List (List ℕ) → Type 0
HoldsAll es F = (v : List ℕ) → Contains F v → Holds es v

-- this is the arrival number of member i of the identifiers
abbrev pub IsMemberNumber : List GraphEntry → List (List ℕ) → ℕ → ℕ → Type 0
IsMemberNumber es F i n = (v : List ℕ) × (slice_get F i ≡ Some v) × (slice_get (ids_of es) n ≡ Some v)

-- entries in an order of arrival: no identifier comes twice, and parents stand before their children
pub record IsHistoryGraph (es : List GraphEntry) : Type 0 where
  pub distinct : (n : ℕ) (e : GraphEntry) → slice_get es n ≡ Some e → ¬ (Holds (take n es) e.id)
  pub parents_first : (n : ℕ) (e : GraphEntry) → slice_get es n ≡ Some e → HoldsAll (take n es) e.parents

-- two lists have the same entries
abbrev pub SameEntries : List GraphEntry → List GraphEntry → Type 0
SameEntries es fs = (e : GraphEntry) → Contains es e ↔ Contains fs e

-- whether an identifier is among others
abbrev pub has_id : List ℕ → List (List ℕ) → Bool
has_id v [] = false
has_id v (w ∷ ws) = is_eq (id_cmp v w) || has_id v ws
