-- Sets of numbers below a size, as one flag a number.
use Rattle.std.specs.Prelude.{ℕ, ◌+◌, Bool, false, not, ◌&&◌, if◌then◌else◌, List, [], ◌∷◌, IsTrue, slice_index_or}

-- whether a number is in the set: its flag is set, and none is from the size on
abbrev pub has_mark : List Bool → ℕ → Bool
has_mark flags n = slice_index_or flags n false

-- the number is in the set
abbrev pub IsMarked : List Bool → ℕ → Type 0
IsMarked flags n = IsTrue (has_mark flags n)

-- how many flags are set whose neighbour before is not, where `before` is the flag before the first
abbrev pub pieces_after : Bool → List Bool → ℕ
pieces_after before [] = 0
pieces_after before (flag ∷ flags) = (if flag && not before then 1 else 0) + pieces_after flag flags

-- how many ranges a set is made of: the members whose number less one is no member
abbrev pub pieces_of : List Bool → ℕ
pieces_of flags = pieces_after false flags
