-- Bodies of replies, whole and in part (RFC 9112, sections 6 and 7.1).
use Rattle.std.specs.Prelude.{◌≡◌, ℕ, ◌+◌, ◌<◌, ◌⊎◌, List, [], ◌∷◌, ◌++◌, length, flat_map}
use Rattle.std.specs.List.{AllByRecursion}
use Rattle.braid_ids.specs.Lists.{Lacks}
use Rattle.braid_http.specs.declared.response.BodyKind.{BodyKind}
use Rattle.braid_http.specs.declared.response.BodyKind.TheVariants.{Length, Chunked, ToClose}
use Rattle.braid_http.specs.Heads.{HasNoBlock}
use Rattle.braid_http.specs.Chunks.{Announces, Chunk, IsChunk, print_chunk, chunk_data, bad_chunk, EndsChunked, IsChunked}

-- b is a chunked body, whatever the length of its data, and this is its data
pub record IsChunkedBody (content b : List ℕ) : Type 0 where
  pub most : ℕ
  pub is : IsChunked most content b

-- b is a whole body of this kind, and this is its data. One that ends with the connection may be whole after any bytes
abbrev pub IsBody : BodyKind → List ℕ → List ℕ → Type 0
IsBody (Length n) content b = (content ≡ b) × (length b ≡ n)
IsBody Chunked content b = IsChunkedBody content b
IsBody ToClose content b = content ≡ b

-- whole chunks have come, and then a part of a line
pub record IsInLine (begun content b : List ℕ) : Type 0 where
  pub chunks : List Chunk
  pub each : AllByRecursion IsChunk chunks
  pub lacks : Lacks 10 begun
  pub short : length begun < 256
  pub passed_is : b ≡ flat_map print_chunk chunks ++ begun
  pub content_is : content ≡ chunk_data chunks

-- whole chunks have come, a line, and a part of its data, of which `left` bytes have not come
pub record IsInChunk (left : ℕ) (content b : List ℕ) : Type 0 where
  pub chunks : List Chunk
  pub line : List ℕ
  pub begun : List ℕ
  pub each : AllByRecursion IsChunk chunks
  pub announces : Announces line (length begun + left)
  pub some : 0 < length begun + left
  pub passed_is : b ≡ flat_map print_chunk chunks ++ (line ++ begun)
  pub content_is : content ≡ chunk_data chunks ++ begun

-- whole chunks have come, a line, its data, and a part of the CRLF behind it
pub record IsBehindChunk (end content b : List ℕ) : Type 0 where
  pub chunks : List Chunk
  pub line : List ℕ
  pub whole : List ℕ
  pub each : AllByRecursion IsChunk chunks
  pub announces : Announces line (length whole)
  pub some : 0 < length whole
  pub passed_is : b ≡ flat_map print_chunk chunks ++ (line ++ (whole ++ end))
  pub content_is : content ≡ chunk_data chunks ++ whole

-- whole chunks have come, the line of the last one, and a part of the trailer
pub record IsBehindLast (begun content b : List ℕ) : Type 0 where
  pub chunks : List Chunk
  pub line : List ℕ
  pub each : AllByRecursion IsChunk chunks
  pub announces : Announces line 0
  pub short : length begun < 16_384
  pub none : HasNoBlock begun
  pub passed_is : b ≡ flat_map print_chunk chunks ++ (line ++ begun)
  pub content_is : content ≡ chunk_data chunks

-- what has come of a chunked body, and the data in it: it ends in a line, in data, behind data, or in the trailer
pub data HasCome (content b : List ℕ) : Type 0 where
  in_line : (begun : List ℕ) → IsInLine begun content b → HasCome content b
  in_chunk : (left : ℕ) → 0 < left → IsInChunk left content b → HasCome content b
  behind_chunk : (end : List ℕ) → (end ≡ []) ⊎ (end ≡ 13 ∷ []) → IsBehindChunk end content b → HasCome content b
  behind_last : (begun : List ℕ) → IsBehindLast begun content b → HasCome content b

-- b is what has come of a body of this kind that is not whole, and this is the data in it
abbrev pub HasBegun : BodyKind → List ℕ → List ℕ → Type 0
HasBegun (Length n) content b = (content ≡ b) × (length b < n)
HasBegun Chunked content b = HasCome content b
HasBegun ToClose content b = content ≡ b

-- with the last byte of b it is shown that these bytes begin no chunked body
pub record IsAgainstChunks (b : List ℕ) : Type 0 where
  pub most : ℕ
  pub chunks : List Chunk
  pub ends : EndsChunked most chunks bad_chunk b

-- with its last byte b is against a body of this kind, which can be only of a chunked one, and this data came before it
pub record IsAgainst (kind : BodyKind) (content b : List ℕ) : Type 0 where
  pub chunked : kind ≡ Chunked
  pub front : List ℕ
  pub last : ℕ
  pub whole : b ≡ front ++ last ∷ []
  pub come : HasCome content front
  pub against : IsAgainstChunks b

-- no chunked body begins another one, and one has one data
abbrev pub OneChunked : Type 0
OneChunked =
    (content other b d r s : List ℕ) → IsChunkedBody content b → IsChunkedBody other d → b ++ r ≡ d ++ s
    → (content ≡ other) × (b ≡ d)

-- bytes that are against a chunked body begin none, and what has come of one neither is nor begins with one, nor with
-- bytes that are against one
pub record HasOneState : Type 0 where
  pub whole_or_against : (content b d r s : List ℕ) → IsChunkedBody content b → IsAgainstChunks d → b ++ r ≡ d ++ s → ⊥
  pub whole_or_begun : (content other b d r : List ℕ) → IsChunkedBody content d → HasCome other b → b ≡ d ++ r → ⊥
  pub against_or_begun : (other b d r : List ℕ) → IsAgainstChunks d → HasCome other b → b ≡ d ++ r → ⊥
