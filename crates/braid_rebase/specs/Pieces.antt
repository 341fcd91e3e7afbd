-- A piece of a list of places that reaches over all ranges, and the ranges counted from its start.
use Rattle.std.specs.Prelude.{ℕ, ◌-◌, List, [], ◌∷◌, length, map, slice_get, Option, Some, None}
use Rattle.braid_change.specs.declared.patch.Patch.{Patch}

-- a range counted from number `first` on
abbrev pub moved_range : ℕ → Patch → Patch
moved_range first r = record { start = r.start - first; end = r.end - first; text = r.text }

abbrev pub moved : ℕ → List Patch → List Patch
moved first rs = map (moved_range first) rs

-- the number of the element before the first range; 0 where there is none
abbrev pub first_needed : List Patch → ℕ
first_needed [] = 0
first_needed (r ∷ rs) = r.start - 1

abbrev pub end_of : Option Patch → ℕ
end_of None = 0
end_of (Some r) = r.end

-- the end of the last range; 0 where there is none
abbrev pub last_end : List Patch → ℕ
last_end rs = end_of (slice_get rs (length rs - 1))
