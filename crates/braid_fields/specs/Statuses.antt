-- Status lines: the line that may stand before the fields of an update.
use Rattle.std.specs.Prelude.{◌≡◌, ℕ, ◌⊎◌, ◌||◌, ◌&&◌, nat_eq, Bool, List, [], ◌∷◌, ◌++◌, drop, length, codes}
use Rattle.std.specs.List.{starts_with}
use Rattle.braid_shelf.specs.ByteClasses.{begins, is_space}
use Rattle.braid_fields.specs.Lines.{IsLineEnd, is_empty_line, ends_line}

-- `HTTP` or `HTTP/1.1`
abbrev pub IsProtocol : List ℕ → Type 0
IsProtocol bytes = (bytes ≡ codes "HTTP") ⊎ (bytes ≡ codes "HTTP/1.1")

-- nothing, or a space and any bytes
abbrev pub IsPhrase : List ℕ → Type 0
IsPhrase bytes = (bytes ≡ []) ⊎ ((more : List ℕ) × (bytes ≡ 32 ∷ more))

-- a line that has the form of a status line: `HTTP` or `HTTP/1.1`, one space, `200`, and then nothing, or a space and
-- any bytes
pub record IsStatusLine (line : List ℕ) : Type 0 where
  pub protocol : List ℕ
  pub phrase : List ℕ
  pub end : List ℕ
  pub is_protocol : IsProtocol protocol
  pub is_phrase : IsPhrase phrase
  pub is_end : IsLineEnd end
  pub spelled : line ≡ protocol ++ (codes " 200" ++ (phrase ++ end))

-- a line that is taken for a status line, whatever its form: it begins with `HTTP ` or `HTTP/`
pub record BeginsStatus (line : List ℕ) : Type 0 where
  pub rest : List ℕ
  pub spelled : (line ≡ codes "HTTP " ++ rest) ⊎ (line ≡ codes "HTTP/" ++ rest)

-- whether a line is taken for a status line
unfoldable pub is_status : List ℕ → Bool
is_status line = starts_with nat_eq line (codes "HTTP ") || starts_with nat_eq line (codes "HTTP/")

-- whether nothing but the end of a line is left, or a space and then any bytes up to an end
abbrev pub ends_phrase : List ℕ → Bool
ends_phrase rest = is_empty_line rest || (begins is_space rest && ends_line rest)

-- whether a line begins so and a phrase follows
abbrev pub has_phrase : List ℕ → List ℕ → Bool
has_phrase front line = starts_with nat_eq line front && ends_phrase (drop (length front) line)

-- whether a line has the form of a status line
unfoldable pub is_good_status : List ℕ → Bool
is_good_status line = has_phrase (codes "HTTP 200") line || has_phrase (codes "HTTP/1.1 200") line
