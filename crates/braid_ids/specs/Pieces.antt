-- How marks are kept: ranges of numbers that rise and do not touch.
use Rattle.std.specs.Prelude.{ℕ, ◌+◌, ◌-◌, ◌^◌, ◌≤◌, ◌<◌, ◌⊎◌, nat_lt, min, max, List, [], ◌∷◌, ◌++◌, Bool, true, false, replicate, if◌then◌else◌}
use Rattle.braid_ids.specs.declared.piece.Piece.{Piece}

-- the number is in one of the ranges
abbrev pub IsIn : List Piece → ℕ → Type 0
IsIn [] n = ⊥
IsIn (p ∷ ps) n = ((p.from ≤ n) × (n < p.to)) ⊎ IsIn ps n

-- each range has a number, the first is from `low` on, and a number is missing between each and the next
abbrev pub ArePieces : ℕ → List Piece → Type 0
ArePieces low [] = Unit {0}
ArePieces low (p ∷ ps) = (low ≤ p.from) × (p.from < p.to) × ArePieces (p.to + 1) ps

-- all numbers of the ranges are below the size
abbrev pub EndWithin : ℕ → List Piece → Type 0
EndWithin size [] = Unit {0}
EndWithin size (p ∷ ps) = (p.to ≤ size) × EndWithin size ps

-- the flags of the numbers from `low` up to and without the size: those in the ranges are set
abbrev pub flags_in : ℕ → ℕ → List Piece → List Bool
flags_in low size [] = replicate (size - low) false
flags_in low size (p ∷ ps) = replicate (p.from - low) false ++ (replicate (p.to - p.from) true ++ flags_in p.to size ps)

-- the one range of two that overlap or touch
abbrev pub merged : Piece → Piece → Piece
merged p q = record { from = min p.from q.from; to = max p.to q.to }

-- rising ranges with one more: it becomes one with those that it overlaps or touches
abbrev pub with_piece : Piece → List Piece → List Piece
with_piece m [] = m ∷ []
with_piece m (p ∷ ps) = if nat_lt p.to m.from then p ∷ with_piece m ps
    else (if nat_lt m.to p.from then m ∷ with_piece p ps else with_piece (merged m p) ps)

-- the range begins before the last of the ranges
abbrev pub BeginsBeforeLast : List Piece → Piece → Type 0
BeginsBeforeLast [] m = ⊥
BeginsBeforeLast (p ∷ []) m = m.from < p.from
BeginsBeforeLast (p ∷ q ∷ ps) m = BeginsBeforeLast (q ∷ ps) m

-- the numbers in the ranges are all numbers below the size
abbrev pub AreAll : ℕ → List Piece → Type 0
AreAll size ps = (n : ℕ) → n < size → IsIn ps n

-- what marks keep for a set of numbers below this size
pub record KeepPieces (size : ℕ) (ps : List Piece) : Type 0 where
  pub rise : ArePieces 0 ps
  pub within : EndWithin size ps
  pub small : size < 2 ^ 32
