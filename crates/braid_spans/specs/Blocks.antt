-- Runs in blocks, and what is kept of each block.
use Rattle.std.specs.Prelude.{◌≡◌, ℕ, ◌+◌, ◌-◌, ◌*◌, ◌<◌, ◌≤◌, List, All, IsSomeAnd, length, map, take, slice_get, sum_by}
use Rattle.std.specs.List.{flat_map}
use Rattle.braid_spans.specs.Kept.{AreCounted, undeleted_in}
use Rattle.braid_spans.specs.declared.run.Run.{Run}
use Rattle.braid_spans.specs.declared.sum.Sum.{Sum}
use Rattle.braid_spans.specs.declared.sum.Spot.{Spot}

abbrev pub runs_of : List Run → List Run
runs_of b = b

-- the runs of blocks, one block after the other
abbrev pub flat : List (List Run) → List Run
flat bs = flat_map runs_of bs

-- what is kept of a block: how many runs it has, and how many of their elements nothing deletes
abbrev pub sum_of : List Run → Sum
sum_of b = record { runs = length b; undeleted = undeleted_in b }

-- how many runs there are, by what is kept
abbrev pub runs_in : List Sum → ℕ
runs_in sums = sum_by (λ (s : Sum). s.runs) sums

-- how many elements nothing deletes, by what is kept
abbrev pub undeleted_by : List Sum → ℕ
undeleted_by sums = sum_by (λ (s : Sum). s.undeleted) sums

-- how far blocks are filled beyond their halves
abbrev pub over_half : List Run → ℕ
over_half b = length b - 128

abbrev pub weight : List (List Run) → ℕ
weight bs = sum_by over_half bs

-- a block has at most 256 runs
abbrev pub IsFilled : List Run → Type 0
IsFilled b = length b ≤ 256

-- no block has more than 256 runs, each has its sum, and one spare block for each 128 more runs is there: so a full block
-- can be cut in two
pub record AreBlocks (bs : List (List Run)) (sums : List Sum)
    (count undeleted room capacity sums_capacity : ℕ) : Type 0 where
  pub counted : AreCounted (flat bs) undeleted
  pub count_is : count ≡ length (flat bs)
  pub sums_are : sums ≡ map sum_of bs
  pub small : All IsFilled bs
  pub roomy : room + weight bs + 128 * length bs ≤ 128 * capacity
  pub sums_roomy : room + weight bs + 128 * length bs ≤ 128 * sums_capacity
  pub begun : 0 < room → 0 < length bs

-- how many runs stand before a block
abbrev pub before : List (List Run) → ℕ → ℕ
before bs s = length (flat (take s bs))

-- the block of a spot is there, and such
abbrev pub IsSpot : List (List Run) → Spot → (List Run → Type 0) → Type 0
IsSpot bs spot P = IsSomeAnd (slice_get bs spot.block) P
