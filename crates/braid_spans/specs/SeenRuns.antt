-- What marked versions see of runs.
use Rattle.std.specs.Prelude.{ℕ, zero, suc, ◌+◌, List, [], ◌∷◌, Bool, not, ◌&&◌, filter, take, drop, sum_by}
use Rattle.std.specs.List.{list_any, flat_map}
use Rattle.braid_ids.specs.MarkSets.{has_mark}
use Rattle.braid_tree.specs.Rows.{place}
use Rattle.braid_tree.specs.declared.at.At.{At}
use Rattle.braid_spans.specs.Spans.{Spelled, Span}
use Rattle.braid_spans.specs.Kept.{chain_at}
use Rattle.braid_spans.specs.declared.run.Run.{Run}

-- the version is marked, and none of those that delete is
abbrev pub is_seen : List Bool → ℕ → List ℕ → Bool
is_seen marks version by = has_mark marks version && not (list_any (has_mark marks) by)

abbrev pub is_seen_element : List Bool → Spelled → Bool
is_seen_element marks e = is_seen marks e.row.at.version e.by

abbrev pub is_seen_span : List Bool → Span → Bool
is_seen_span marks s = is_seen marks s.first.version s.by

abbrev pub is_seen_run : List Bool → List (List ℕ) → Run → Bool
is_seen_run marks chains r = is_seen marks r.first.version (chain_at chains r.newest)

-- the runs that marked versions see
abbrev pub seen_runs : List Bool → List (List ℕ) → List Run → List Run
seen_runs marks chains rs = filter (is_seen_run marks chains) rs

-- so many places of a version from an ordinal on
abbrev pub places_from : ℕ → ℕ → ℕ → List At
places_from version n zero = []
places_from version n (suc k) = place version n ∷ places_from version (n + 1) k

abbrev pub places_in : Run → List At
places_in r = places_from r.first.version r.first.ordinal r.len

-- the places of the elements that marked versions see
abbrev pub seen_places : List Bool → List (List ℕ) → List Run → List At
seen_places marks chains rs = flat_map places_in (seen_runs marks chains rs)

abbrev pub chars_in : List ℕ → Run → List ℕ
chars_in chars r = take r.len (drop r.start chars)

-- and their characters
abbrev pub seen_chars : List Bool → List ℕ → List (List ℕ) → List Run → List ℕ
seen_chars marks chars chains rs = flat_map (chars_in chars) (seen_runs marks chains rs)

-- and how many there are
abbrev pub seen_count : List Bool → List (List ℕ) → List Run → ℕ
seen_count marks chains rs = sum_by (λ (r : Run). r.len) (seen_runs marks chains rs)
