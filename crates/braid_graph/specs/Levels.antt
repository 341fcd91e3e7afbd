-- The level of a version: 1 plus the greatest level of its parents, and 1 without parents.
use Rattle.std.specs.Prelude.{ℕ, List, [], ◌∷◌, ◌+◌, max, if◌then◌else◌, reverse}
use Rattle.std.specs.Ordering.{is_eq}
use Rattle.braid_ids.specs.Identifiers.{id_cmp}
use Rattle.braid_graph.specs.Entries.{GraphEntry}

-- the greatest number of the members, 0 of none
abbrev pub greatest_by : (List ℕ → ℕ) → List (List ℕ) → ℕ
greatest_by number [] = 0
greatest_by number (v ∷ vs) = max (number v) (greatest_by number vs)

-- the level among entries that are listed newest first; 0 of an identifier that no entry has
abbrev pub level_in : List GraphEntry → List ℕ → ℕ
level_in [] v = 0
level_in (e ∷ es) v = if is_eq (id_cmp e.id v) then 1 + greatest_by (level_in es) e.parents else level_in es v

-- the level among entries in order of arrival
abbrev pub level_of : List GraphEntry → List ℕ → ℕ
level_of es v = level_in (reverse es) v
