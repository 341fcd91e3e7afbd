-- What an update is resolved to, over the rows that its parents' ancestry sees.
use Rattle.std.specs.Prelude.{◌≡◌, ℕ, zero, suc, ◌+◌, ◌-◌, List, [], ◌∷◌, ◌++◌, Bool, Option, Some, None, IsSome, length, take, drop, map, unwrap_or, slice_get}
use Rattle.braid_change.specs.declared.patch.Patch.{Patch}
use Rattle.braid_change.specs.declared.change.Change.{Change}
use Rattle.braid_change.specs.Splices.{ranges, first_past}
use Rattle.braid_change.specs.Updates.{UpdateView}
use Rattle.braid_graph.specs.Entries.{GraphEntry}
use Rattle.braid_graph.specs.Ancestries.{MarksAncestry}
use Rattle.braid_tree.specs.declared.at.At.{At}
use Rattle.braid_tree.specs.Rows.{Row, RowDeletion}
use Rattle.braid_tree.specs.Seen.{seen_rows, place_in, char_in}
use Rattle.braid_rebase.specs.Pieces.{first_needed, last_end}
use Rattle.braid_rebase.specs.declared.run.Run.{Run}
use Rattle.braid_rebase.specs.declared.reaching.Reach.{Reach}
use Rattle.braid_rebase.specs.declared.resolving.Resolved.{Resolved}
use Rattle.braid_rebase.specs.declared.resolving.RebaseFault.{RebaseFault}
use Rattle.braid_rebase.specs.declared.resolving.RebaseFault.TheVariants.{OutOfRange, Memory}

-- S are the rows that the ancestry of a frontier sees, in their order
pub record IsSeenAt (es : List GraphEntry) (F : List (List ℕ)) (deletions : List RowDeletion)
    (rows S : List Row) : Type 0 where
  pub marks : List Bool
  pub ancestry : MarksAncestry es F marks
  pub seen : S ≡ seen_rows marks deletions rows

abbrev pub places_of : List Row → List At
places_of S = map place_in S

abbrev pub row_chars : List Row → List ℕ
row_chars S = map char_in S

-- the ranges of the seen rows that a change replaces; none where a patch passes their end
abbrev pub row_ranges : List Row → Change → List Patch
row_ranges S change = unwrap_or (ranges (row_chars S) change) []

-- the place of number s - 1, or none where s is 0
abbrev pub place_before : List At → ℕ → Option At
place_before places zero = None
place_before places (suc s) = slice_get places s

-- the runs of ranges: each range's text behind the place before the range; ordinals go on from n through all ranges
abbrev pub runs_at : List At → ℕ → List Patch → List Run
runs_at places n [] = []
runs_at places n (r ∷ rs) =
    record { after = place_before places r.start; text = r.text; ordinal = n } ∷ runs_at places (n + length r.text) rs

-- the places within ranges: those from each range's start up to its end
abbrev pub places_at : List At → List Patch → List At
places_at places [] = []
places_at places (r ∷ rs) = take (r.end - r.start) (drop r.start places) ++ places_at places rs

-- the change has ranges in the seen rows, and resolved are its runs and the places that it deletes
pub record IsResolved (S : List Row) (change : Change) (resolved : Resolved) : Type 0 where
  pub fits : IsSome (ranges (row_chars S) change)
  pub runs : resolved.runs.items ≡ runs_at (places_of S) 0 (row_ranges S change)
  pub deletes : resolved.deletes.items ≡ places_at (places_of S) (row_ranges S change)

-- the places of the seen rows that ranges reach over, as far as there are such: from the one before the first range up to the end of the last
pub record IsReachIn (S : List Row) (reach : Reach) : Type 0 where
  pub first : reach.first ≡ first_needed reach.ranges.items
  pub end : reach.end ≡ last_end reach.ranges.items
  pub places : reach.places.items ≡ take (reach.end - reach.first) (drop reach.first (places_of S))

-- why an update was not resolved: the first joined patch past the seen rows, and how many these are. Memory may come for any update
abbrev pub IsRebaseFault : List GraphEntry → List RowDeletion → List Row → UpdateView → RebaseFault → Type 0
IsRebaseFault es deletions rows u (OutOfRange patch len) =
    (S : List Row) × IsSeenAt es u.parents deletions rows S × (first_past (row_chars S) u.change ≡ Some patch)
    × (len ≡ length S)
IsRebaseFault es deletions rows u Memory = Unit {0}

-- why a change has no ranges in a text: the first joined patch past its end, and its length. Memory may come for any change
abbrev pub IsRangeFault : List ℕ → Change → RebaseFault → Type 0
IsRangeFault t change (OutOfRange patch len) = (first_past t change ≡ Some patch) × (len ≡ length t)
IsRangeFault t change Memory = Unit {0}
