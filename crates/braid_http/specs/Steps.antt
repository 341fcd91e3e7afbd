-- What one step of decoding a chunked body does.
use Rattle.std.specs.Prelude.{◌≡◌, ℕ, ◌+◌, ◌<◌, ◌≤◌, List, ◌++◌, length, take, drop, flat_map}
use Rattle.std.specs.List.{AllByRecursion}
use Rattle.braid_http.specs.declared.refusal.Refusal.TheVariants.{LongHead, ManyFields, BadHead, Version, BothLengths, BadLength, TooLong, BadChunk}
use Rattle.braid_http.specs.declared.chunks.Place.{Place}
use Rattle.braid_http.specs.declared.chunks.Place.TheVariants.{Line, Data, Trailer}
use Rattle.braid_http.specs.declared.chunks.Fed.{Fed}
use Rattle.braid_http.specs.declared.chunks.Fed.TheVariants.{Passed, Open, Done, Refused, Memory}
use Rattle.braid_http.specs.Looks.{IsLooked}
use Rattle.braid_http.specs.Chunks.{Announces, Chunk, IsChunk, print_chunk, chunk_data, Close, Closes, bad_chunk, too_long, EndsChunked, IsChunked}

-- the trailer was looked at within these bytes
abbrev pub IsPlace : Place → List ℕ → Type 0
IsPlace Line bytes = Unit {0}
IsPlace (Data left) bytes = Unit {0}
IsPlace (Trailer look) bytes = IsLooked look bytes

-- whole chunks were passed, and their data was put out
pub record IsAtLine (passed out : List ℕ) : Type 0 where
  pub chunks : List Chunk
  pub each : AllByRecursion IsChunk chunks
  pub fits : length (chunk_data chunks) ≤ 2_097_152
  pub passed_is : passed ≡ flat_map print_chunk chunks
  pub out_is : out ≡ chunk_data chunks

-- whole chunks, a line and some of its data were passed, and `left` bytes of it have not come
pub record IsInData (left : ℕ) (passed out : List ℕ) : Type 0 where
  pub chunks : List Chunk
  pub line : List ℕ
  pub begun : List ℕ
  pub each : AllByRecursion IsChunk chunks
  pub announces : Announces line (length begun + left)
  pub some : 0 < length begun + left
  pub fits : length (chunk_data chunks) + (length begun + left) ≤ 2_097_152
  pub passed_is : passed ≡ flat_map print_chunk chunks ++ (line ++ begun)
  pub out_is : out ≡ chunk_data chunks ++ begun

-- whole chunks and the line of the last one were passed
pub record IsInTrailer (passed out : List ℕ) : Type 0 where
  pub chunks : List Chunk
  pub line : List ℕ
  pub each : AllByRecursion IsChunk chunks
  pub announces : Announces line 0
  pub fits : length (chunk_data chunks) ≤ 2_097_152
  pub passed_is : passed ≡ flat_map print_chunk chunks ++ line
  pub out_is : out ≡ chunk_data chunks

-- these bytes were passed, and this data was put out
abbrev pub IsAfter : Place → List ℕ → List ℕ → Type 0
IsAfter Line passed out = IsAtLine passed out
IsAfter (Data left) passed out = IsInData left passed out
IsAfter (Trailer look) passed out = IsInTrailer passed out

-- no front of the bytes decides a body of at most `most` bytes of data, behind chunks with `total`
abbrev pub OpenAfter : ℕ → ℕ → List ℕ → Type 0
OpenAfter most total bytes =
    (ds : List Chunk) (k : Close) (l m rest : List ℕ) → AllByRecursion IsChunk ds
    → total + length (chunk_data ds) ≤ most
    → Closes most (total + length (chunk_data ds)) l m k → bytes ≡ flat_map print_chunk ds ++ ((l ++ m) ++ rest) → ⊥

-- the bytes begin with some that are against a body
pub record IsAgainst (close : Close) (bytes : List ℕ) : Type 0 where
  pub front : List ℕ
  pub rest : List ℕ
  pub chunks : List Chunk
  pub ends : EndsChunked 2_097_152 chunks close front
  pub whole : bytes ≡ front ++ rest

-- what a step leaves, where `passed` stands before the bytes
abbrev pub Leaves : Fed → List ℕ → List ℕ → List ℕ → List ℕ → Type 0
Leaves (Passed n place) passed bytes old new = (0 < n) × (n ≤ length bytes) × IsAfter place (passed ++ take n bytes) new
    × IsPlace place (drop n bytes)
Leaves (Open place) passed bytes old new = OpenAfter 2_097_152 0 (passed ++ bytes) × (length bytes < 16_384)
    × (new ≡ old) × IsAfter place passed new × IsPlace place bytes
Leaves (Done n) passed bytes old new = (n ≤ length bytes) × IsChunked 2_097_152 new (passed ++ take n bytes)
Leaves (Refused BadChunk) passed bytes old new = IsAgainst bad_chunk (passed ++ bytes)
Leaves (Refused TooLong) passed bytes old new = IsAgainst too_long (passed ++ bytes)
Leaves (Refused LongHead) passed bytes old new = ⊥
Leaves (Refused ManyFields) passed bytes old new = ⊥
Leaves (Refused BadHead) passed bytes old new = ⊥
Leaves (Refused Version) passed bytes old new = ⊥
Leaves (Refused BothLengths) passed bytes old new = ⊥
Leaves (Refused BadLength) passed bytes old new = ⊥
Leaves Memory passed bytes old new = Unit {0}

-- one step
abbrev pub Steps : Place → Fed → List ℕ → List ℕ → List ℕ → Type 0
Steps place fed bytes old new = (passed : List ℕ) → IsAfter place passed old → Leaves fed passed bytes old new
