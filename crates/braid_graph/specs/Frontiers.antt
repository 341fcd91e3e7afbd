-- The frontier of a graph: the identifiers that are no entry's parent.
use Rattle.std.specs.Prelude.{◌↔◌, ℕ, List, [], ◌∷◌, Bool, false, not, ◌||◌, filter, Contains}
use Rattle.braid_ids.specs.Frontiers.{IsRising, rising_ids}
use Rattle.braid_graph.specs.Entries.{GraphEntry, ids_of, Holds, has_id}

-- an entry has this identifier among its parents
abbrev pub IsParent : List GraphEntry → List ℕ → Type 0
IsParent es v = (e : GraphEntry) × Contains es e × Contains e.parents v

-- the set of the identifiers that are no entry's parent, in rising order
pub record IsFrontierOf (es : List GraphEntry) (F : List (List ℕ)) : Type 0 where
  pub rising : IsRising F
  pub exact : (v : List ℕ) → Contains F v ↔ (Holds es v × ¬ (IsParent es v))

-- whether an entry has this identifier among its parents
abbrev pub is_parent : List GraphEntry → List ℕ → Bool
is_parent [] v = false
is_parent (e ∷ es) v = has_id v e.parents || is_parent es v

-- whether an identifier is no entry's parent
abbrev pub is_head : List GraphEntry → List ℕ → Bool
is_head es v = not (is_parent es v)

-- the identifiers that are no entry's parent, in order of arrival
abbrev pub heads_of : List GraphEntry → List (List ℕ)
heads_of es = filter (is_head es) (ids_of es)

-- the frontier as a list: the identifiers that are no entry's parent, in rising order
abbrev pub frontier_of : List GraphEntry → List (List ℕ)
frontier_of es = rising_ids (heads_of es)
