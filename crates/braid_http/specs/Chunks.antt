-- Chunked bodies, and the byte that decides one (RFC 9112, section 7.1).
use Rattle.std.specs.Prelude.{◌≡◌, ◌≢◌, ℕ, ◌+◌, ◌<◌, ◌≤◌, ◌⊎◌, List, [], ◌∷◌, ◌++◌, length, flat_map}
use Rattle.std.specs.List.{AllByRecursion}
use Rattle.httparse.specs.Grammar.{ChunkLine, ReadsChunkLine, chunk_size}
use Rattle.braid_ids.specs.Lists.{Lacks}
use Rattle.braid_http.specs.Heads.{line, lines, IsEmptyLine, IsFullLine, HasNoBlock}

-- the bytes of a chunk line, whole or too long: up to its LF, or 256 bytes without one
abbrev pub IsCut : List ℕ → Type 0
IsCut b = ((c : List ℕ) × Lacks 10 c × (b ≡ line c) × (length b ≤ 256)) ⊎ ((length b ≡ 256) × Lacks 10 b)

-- the bytes are exactly a chunk line, as `httparse` reads chunk sizes, that announces n bytes of data
pub record Announces (b : List ℕ) (n : ℕ) : Type 0 where
  pub cut : IsCut b
  pub line : ChunkLine
  pub reads : ReadsChunkLine b line []
  pub size : n ≡ chunk_size line

-- a chunk: its line and its data
pub record Chunk : Type 0 where
  pub line : List ℕ
  pub content : List ℕ

-- the line announces the data, and there is some
pub record IsChunk (c : Chunk) : Type 0 where
  pub announces : Announces c.line (length c.content)
  pub some : 0 < length c.content

-- a chunk's bytes: its line, its data and CRLF
abbrev pub print_chunk : Chunk → List ℕ
print_chunk c = c.line ++ (c.content ++ 13 ∷ 10 ∷ [])

-- the data of chunks
abbrev pub chunk_data : List Chunk → List ℕ
chunk_data cs = flat_map (λ c. c.content) cs

-- a trailer: lines that are passed over, and an empty line, in at most 16,384 bytes
pub record IsTrailer (b : List ℕ) : Type 0 where
  pub full : List (List ℕ)
  pub last : List ℕ
  pub each : AllByRecursion IsFullLine full
  pub ends : IsEmptyLine last
  pub whole : b ≡ lines full ++ line last
  pub short : length b ≤ 16_384

-- what stands behind a chunk's data departs from CRLF with its last byte
abbrev pub Departs : List ℕ → Type 0
Departs [] = ⊥
Departs (x ∷ []) = x ≢ 13
Departs (x ∷ y ∷ []) = (x ≡ 13) × (y ≢ 10)
Departs (x ∷ y ∷ z ∷ zs) = ⊥

-- how a chunked body is decided
pub data Close : Type 0 where
  done : Close
  bad_chunk : Close
  too_long : Close

-- A line after chunks with `total` bytes of data, and what stands behind it up to the byte that decides a body of which
-- the data may have `most` bytes: the last chunk and a trailer; a line that is not read; a line that announces data past
-- that number; data that CRLF does not follow; the last chunk and 16,384 bytes in which no trailer ends.
pub data Closes (most total : ℕ) (line more : List ℕ) : Close → Type 0 where
  last : Announces line 0 → IsTrailer more → Closes most total line more done
  unread : IsCut line → ((l : ChunkLine) → ¬ (ReadsChunkLine line l [])) → more ≡ []
      → Closes most total line more bad_chunk
  over : (n : ℕ) → Announces line n → 0 < n → most < total + n → more ≡ [] → Closes most total line more too_long
  departs : (content end : List ℕ) → Announces line (length content) → 0 < length content
      → total + length content ≤ most → more ≡ content ++ end → Departs end → Closes most total line more bad_chunk
  long_trailer : Announces line 0 → length more ≡ 16_384 → HasNoBlock more → Closes most total line more bad_chunk

-- With the last byte of b a body of at most `most` bytes of data is decided, after these chunks.
pub record EndsChunked (most : ℕ) (cs : List Chunk) (close : Close) (b : List ℕ) : Type 0 where
  pub each : AllByRecursion IsChunk cs
  pub fits : length (chunk_data cs) ≤ most
  pub line : List ℕ
  pub more : List ℕ
  pub closes : Closes most (length (chunk_data cs)) line more close
  pub whole : b ≡ flat_map print_chunk cs ++ (line ++ more)

-- b is a chunked body of at most `most` bytes of data, and this is its data
pub record IsChunked (most : ℕ) (content b : List ℕ) : Type 0 where
  pub chunks : List Chunk
  pub ends : EndsChunked most chunks done b
  pub gives : content ≡ chunk_data chunks

-- no bytes that decide a chunked body begin others that decide one, and they decide it in one way
abbrev pub OneBody : Type 0
OneBody =
    (most : ℕ) (cs ds : List Chunk) (k j : Close) (b d r s : List ℕ)
    → EndsChunked most cs k b → EndsChunked most ds j d → b ++ r ≡ d ++ s → (cs ≡ ds) × (k ≡ j) × (b ≡ d)

-- chunked bytes have one data
abbrev pub OneData : Type 0
OneData = (most : ℕ) (content data' b : List ℕ) → IsChunked most content b → IsChunked most data' b → content ≡ data'
