-- Field lines: a name, a colon and a value (RFC 9112, sections 2.2 and 5; RFC 9110, sections 5.1, 5.5 and 5.6.2).
use Rattle.std.specs.Prelude.{◌≡◌, ℕ, ◌<◌, ◌==◌, ◌||◌, ◌&&◌, not, nat_le, nat_lt, Bool, false, List, [], ◌∷◌, ◌++◌, length, map, codes, Option, Some, None, if◌then◌else◌}
use Rattle.std.specs.List.{list_all, list_any}
use Rattle.std.specs.Char.{to_ascii_lowercase}
use Rattle.braid_shelf.specs.ByteClasses.{Are, begins, is_blank, is_digit, is_letter}
use Rattle.braid_shelf.specs.Reading.{front_of, after}
use Rattle.braid_fields.specs.Lines.{IsLineEnd, ends, ends_line, content_of}

-- a byte that a name may have: a letter, a digit or one of these marks
abbrev pub is_in_name : ℕ → Bool
is_in_name byte = is_letter byte || is_digit byte || list_any (λ mark. byte == mark) (codes "!#$%&'*+-.^_`|~")

-- the name of a field: one or more such bytes
pub record IsName (name : List ℕ) : Type 0 where
  pub some : 0 < length name
  pub bytes : Are is_in_name name

-- two names of one field: they differ at most in the case of their letters
abbrev pub SameName : List ℕ → List ℕ → Type 0
SameName name other = map to_ascii_lowercase name ≡ map to_ascii_lowercase other

-- a byte that a value may have: any but the control bytes other than the tab
abbrev pub is_in_value : ℕ → Bool
is_in_value byte = byte == 9 || (nat_le 0x20 byte && not (byte == 0x7f))

-- the bytes are the value with spaces and tabs around it, and the value itself neither begins nor ends with one
pub record IsPadded (value bytes : List ℕ) : Type 0 where
  pub before : List ℕ
  pub after : List ℕ
  pub before_blank : Are is_blank before
  pub after_blank : Are is_blank after
  pub begins_so : begins is_blank value ≡ false
  pub ends_so : ends is_blank value ≡ false
  pub spelled : bytes ≡ before ++ (value ++ after)

-- what a field line has before its end: a name, `:`, and a value with spaces and tabs around it
pub record IsField (name value content : List ℕ) : Type 0 where
  pub padded : List ℕ
  pub is_name : IsName name
  pub value_bytes : Are is_in_value value
  pub is_padded : IsPadded value padded
  pub spelled : content ≡ name ++ 58 ∷ padded

-- a field line
pub record IsFieldLine (name value line : List ℕ) : Type 0 where
  pub content : List ℕ
  pub end : List ℕ
  pub field : IsField name value content
  pub is_end : IsLineEnd end
  pub spelled : line ≡ content ++ end

-- a field: its name and its value
pub record Field : Type 0 where
  pub name : List ℕ
  pub value : List ℕ

-- whether bytes are a name
abbrev pub is_name : List ℕ → Bool
is_name name = nat_lt 0 (length name) && list_all is_in_name name

-- bytes without the spaces and tabs at their end
abbrev pub without_end : List ℕ → List ℕ
without_end [] = []
without_end (b ∷ bytes) = if list_all is_blank (b ∷ bytes) then [] else b ∷ without_end bytes

-- bytes without the spaces and tabs at both ends
abbrev pub trimmed : List ℕ → List ℕ
trimmed bytes = without_end (after is_blank bytes)

-- a byte that is no colon
abbrev pub is_no_colon : ℕ → Bool
is_no_colon byte = not (byte == 58)

-- the field of a content, from what stands before its first colon and what begins with that colon
abbrev pub field_from : List ℕ → List ℕ → Option Field
field_from name [] = None
field_from name (colon ∷ padded) =
    if is_name name && list_all is_in_value (trimmed padded) then Some (record { name = name; value = trimmed padded })
    else None

-- the field of a content
abbrev pub field_in : List ℕ → Option Field
field_in content = field_from (front_of is_no_colon content) (after is_no_colon content)

-- the field of a line, of which the LF is the last byte
unfoldable pub field_of : List ℕ → Option Field
field_of line = if ends_line line then field_in (content_of line) else None
