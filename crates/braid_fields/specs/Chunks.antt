-- Chunks as they are written (RFC 9112, section 7.1): the size in lower-case hexadecimal, CRLF, the data, CRLF; and the last chunk.
use Rattle.std.specs.Fmt.{digits}
use Rattle.std.specs.Prelude.{◌≡◌, ℕ, ◌<◌, ◌≤◌, ◌||◌, false, List, [], ◌∷◌, ◌++◌, length, codes, IsTrue, nat_le, ◌&&◌}
use Rattle.std.specs.List.{AllByRecursion}
use Rattle.std.specs.Char.{is_ascii_digit}
use Rattle.std.specs.Str.Parse.{digits_value}

-- a digit of a lower-case hexadecimal number
abbrev pub IsHexDigit : ℕ → Type 0
IsHexDigit digit = IsTrue (is_ascii_digit digit || (nat_le 97 digit && nat_le digit 102))

-- the digits write the number in lower-case hexadecimal, without leading zeros; there are at most 16
pub record IsHexadecimal (n : ℕ) (digits : List ℕ) : Type 0 where
  pub some : 0 < length digits
  pub few : length digits ≤ 16
  pub each : AllByRecursion IsHexDigit digits
  pub value : digits_value 16 digits ≡ n
  pub shortest : (rest : List ℕ) → digits ≡ 48 ∷ rest → rest ≡ []

-- b is a chunk of this data as it is written
pub record IsWrittenChunk (content b : List ℕ) : Type 0 where
  pub digits : List ℕ
  pub size : IsHexadecimal (length content) digits
  pub some : 0 < length content
  pub whole : b ≡ digits ++ codes "\r\n" ++ content ++ codes "\r\n"

-- b is chunks of these pieces of data as they are written, one behind the other
abbrev pub AreWrittenChunks : List (List ℕ) → List ℕ → Type 0
AreWrittenChunks [] b = b ≡ []
AreWrittenChunks (piece ∷ pieces) b =
    (chunk rest : List ℕ) × IsWrittenChunk piece chunk × AreWrittenChunks pieces rest × (b ≡ chunk ++ rest)

-- the chunk of this data: the digits of its size, CRLF, the data, CRLF
abbrev pub chunk : List ℕ → List ℕ
chunk content = digits 16 false (length content) ++ codes "\r\n" ++ content ++ codes "\r\n"

-- the chunk of an empty line
abbrev pub beat : List ℕ
beat = codes "2\r\n\r\n\r\n"

-- the last chunk as it is written
abbrev pub last_chunk : List ℕ
last_chunk = codes "0\r\n\r\n"
