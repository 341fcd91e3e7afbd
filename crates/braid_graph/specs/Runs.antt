-- Runs of a graph: entries one after the other, each but the first with the one before it as its only parent.
use Rattle.std.specs.Prelude.{ℕ, ◌+◌, List, [], ◌∷◌, Bool, false, Option, Some, None, length, if◌then◌else◌}
use Rattle.std.specs.Ordering.{is_eq}
use Rattle.braid_ids.specs.Identifiers.{id_cmp}
use Rattle.braid_graph.specs.Entries.{GraphEntry}

-- whether these parents are the one entry before, which has this identifier where there is one
abbrev pub goes_on : Option (List ℕ) → List (List ℕ) → Bool
goes_on None parents = false
goes_on (Some v) [] = false
goes_on (Some v) (w ∷ []) = is_eq (id_cmp v w)
goes_on (Some v) (w ∷ x ∷ ws) = false

-- the numbers of the entries whose parents are not the one entry before them, where the first entry has number n
abbrev pub starts_from : ℕ → Option (List ℕ) → List GraphEntry → List ℕ
starts_from n before [] = []
starts_from n before (e ∷ es) = if goes_on before e.parents then starts_from (n + 1) (Some e.id) es
    else n ∷ starts_from (n + 1) (Some e.id) es

-- the arrival numbers of the entries whose parents are not the one entry before them: each begins a run
abbrev pub starts_of : List GraphEntry → List ℕ
starts_of es = starts_from 0 None es

-- how many entries have other parents than the one entry before them
abbrev pub runs_of : List GraphEntry → ℕ
runs_of es = length (starts_of es)
