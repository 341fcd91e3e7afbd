-- Where a body reader stands, and what its steps do.
use Rattle.std.specs.Prelude.{◌≡◌, ℕ, ◌+◌, ◌-◌, ◌<◌, List, [], ◌∷◌, ◌++◌, length, flat_map, Option, Some, None}
use Rattle.std.specs.List.{AllByRecursion}
use Rattle.braid_io.specs.Outside.{Intake}
use Rattle.httparse.specs.Grammar.{ChunkLine, ReadsChunkLine}
use Rattle.braid_http.specs.declared.response.BodyKind.TheVariants as kinds
use Rattle.braid_http.specs.declared.around.Framing.{Framing}
use Rattle.braid_http.specs.declared.around.Framing.TheVariants.{Line, Behind, BehindCr, Trailer}
use Rattle.braid_http.specs.declared.around.TrailerLine.{TrailerLine}
use Rattle.braid_http.specs.declared.around.TrailerLine.TheVariants.{Empty, Cr, Full}
use Rattle.braid_http.specs.declared.around.Added.{Added}
use Rattle.braid_http.specs.declared.around.Added.TheVariants.{More, Size, Unread}
use Rattle.braid_http.specs.declared.around.Next.{Next}
use Rattle.braid_http.specs.declared.around.Next.TheVariants as nexts
use Rattle.braid_http.specs.declared.around.Passed.{Passed}
use Rattle.braid_http.specs.declared.around.Passed.TheVariants as passes
use Rattle.braid_http.specs.Heads.{lines, IsEmptyLine, IsFullLine}
use Rattle.braid_http.specs.Chunks.{IsCut, Announces, Chunk, IsChunk, print_chunk, chunk_data}
use Rattle.braid_http.specs.Bodies.{IsChunkedBody, IsInLine, IsInChunk, IsBehindChunk, IsAgainst}
use Rattle.braid_http.specs.Draws.{Draws, DrawsToEnd, DrawsAndFails}

-- a part of a line of a trailer: nothing, a CR alone, or more
abbrev pub IsPartOf : TrailerLine → List ℕ → Type 0
IsPartOf Empty part = part ≡ []
IsPartOf Cr part = part ≡ 13 ∷ []
IsPartOf Full part = IsFullLine part

-- a byte more behind full lines of a trailer and a part of one: it ends the trailer, or there are others then
abbrev pub Turns : Option TrailerLine → List (List ℕ) → List ℕ → ℕ → Type 0
Turns None full part byte = IsEmptyLine part × (byte ≡ 10)
Turns (Some line) full part byte =
    (more : List (List ℕ)) × (begun : List ℕ) × AllByRecursion IsFullLine more × IsPartOf line begun
    × (lines more ++ begun ≡ (lines full ++ part) ++ byte ∷ [])

-- whole chunks have come, the line of the last one, full lines of the trailer and a part of a line; `left` bytes more
-- may belong to the trailer
pub record IsTrailing (left : ℕ) (line : TrailerLine) (content b : List ℕ) : Type 0 where
  pub chunks : List Chunk
  pub last : List ℕ
  pub full : List (List ℕ)
  pub part : List ℕ
  pub each : AllByRecursion IsChunk chunks
  pub announces : Announces last 0
  pub lines_are : AllByRecursion IsFullLine full
  pub part_is : IsPartOf line part
  pub count : length (lines full ++ part) + left ≡ 16_384
  pub some : 0 < left
  pub passed_is : b ≡ flat_map print_chunk chunks ++ (last ++ (lines full ++ part))
  pub content_is : content ≡ chunk_data chunks

-- these bytes have come, and this data, and the reader stands there with this part of a chunk's line
abbrev pub IsAround : Framing → List ℕ → List ℕ → List ℕ → Type 0
IsAround Line begun content b = IsInLine begun content b
IsAround Behind begun content b = (begun ≡ []) × IsBehindChunk [] content b
IsAround BehindCr begun content b = (begun ≡ []) × IsBehindChunk (13 ∷ []) content b
IsAround (Trailer left line) begun content b = (begun ≡ []) × IsTrailing left line content b

-- what a byte more has made of that
abbrev pub Comes : Next → List ℕ → List ℕ → List ℕ → Type 0
Comes (nexts.Around framing) begun content b = IsAround framing begun content b
Comes (nexts.Data left) begun content b = (begun ≡ []) × (0 < left) × IsInChunk left content b
Comes nexts.Whole begun content b = IsChunkedBody content b
Comes nexts.Against begun content b = IsAgainst kinds.Chunked content b

-- a byte more of a chunk's line: more of it; a line that announces data; a line that is not read
abbrev pub Adds : Added → List ℕ → List ℕ → ℕ → Type 0
Adds More old new byte = new ≡ old ++ byte ∷ []
Adds (Size n) old new byte = (new ≡ []) × Announces (old ++ byte ∷ []) n
Adds Unread old new byte = (new ≡ []) × IsCut (old ++ byte ∷ [])
    × ((l : ChunkLine) → ¬ (ReadsChunkLine (old ++ byte ∷ []) l []))

-- how many bytes more can stand before the next data, or before the end
abbrev pub budget : Framing → List ℕ → ℕ
budget Line begun = 16_384 + (257 - length begun)
budget Behind begun = 16_384 + 259
budget BehindCr begun = 16_384 + 258
budget (Trailer left line) begun = left

-- the budget falls
abbrev pub Falls : Framing → List ℕ → Next → List ℕ → Type 0
Falls old begun (nexts.Around new) after = budget new after < budget old begun
Falls old begun (nexts.Data left) after = Unit {0}
Falls old begun nexts.Whole after = Unit {0}
Falls old begun nexts.Against after = Unit {0}

-- What stands around data was passed: up to data; up to the end; up to a byte that is against the body; up to the end of
-- the source; or up to a failed read.
abbrev pub Passes : Passed → Framing → List ℕ → List ℕ → List ℕ → List ℕ → Intake → Intake → Type 0
Passes (passes.Data left) old begun after held kept i j =
    (used : List ℕ) × Draws used held kept i j
    × ((content b : List ℕ) → IsAround old begun content b
    → (after ≡ []) × (0 < left) × IsInChunk left content (b ++ used))
Passes passes.Whole old begun after held kept i j =
    (used : List ℕ) × Draws used held kept i j
    × ((content b : List ℕ) → IsAround old begun content b → IsChunkedBody content (b ++ used))
Passes passes.Against old begun after held kept i j =
    (used : List ℕ) × Draws used held kept i j
    × ((content b : List ℕ) → IsAround old begun content b → IsAgainst kinds.Chunked content (b ++ used))
Passes (passes.Torn new) old begun after held kept i j =
    (used : List ℕ) × DrawsToEnd used held kept i j
    × ((content b : List ℕ) → IsAround old begun content b → IsAround new after content (b ++ used))
Passes (passes.Failed new) old begun after held kept i j =
    (used : List ℕ) × DrawsAndFails used held kept i j
    × ((content b : List ℕ) → IsAround old begun content b → IsAround new after content (b ++ used))
