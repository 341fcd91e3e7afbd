-- What the fields of a request say of its body, and whether they ask to close the connection (RFC 9112, sections 6
-- and 9.6).
use Rattle.std.specs.Prelude.{ℕ, ◌==◌, Bool, List, [], ◌∷◌, codes, if◌then◌else◌, nat_lt}
use Rattle.std.specs.List.{list_any}
use Rattle.std.specs.Str.{str_eq_ignore_ascii_case}
use Rattle.std.specs.Str.Parse.{digits_value}
use Rattle.http_header.specs.HeaderMap.{Entries, get_all}
use Rattle.http_header.specs.FieldValue.{FieldValue}
use Rattle.braid_fields.specs.Fields.{trimmed}
use Rattle.braid_fields.specs.Values.{are_length_digits}
use Rattle.braid_http.specs.declared.refusal.Refusal.TheVariants.{Version, BothLengths, BadLength, TooLong}
use Rattle.braid_http.specs.declared.framing.Framing.{Framing}
use Rattle.braid_http.specs.declared.framing.Framing.TheVariants.{No, Body, Chunks}

-- a body of n bytes, of which a request may have 2,097,152
abbrev pub body_of : ℕ → Framing
body_of n = if nat_lt 2_097_152 n then No TooLong else Body n

-- by the one value of `Content-Length`: 1 to 15 digits
abbrev pub by_length : List ℕ → Framing
by_length value = if are_length_digits value then body_of (digits_value 10 value) else No BadLength

-- by the one value of `Transfer-Encoding`: `chunked` in any case
abbrev pub by_coding : List ℕ → Framing
by_coding value = if str_eq_ignore_ascii_case value (codes "chunked") then Chunks else No BadLength

-- by the values of `Content-Length` and those of `Transfer-Encoding`
abbrev pub framing_of : List FieldValue → List FieldValue → Framing
framing_of [] [] = Body 0
framing_of (l ∷ []) [] = by_length l.bytes
framing_of (l ∷ k ∷ ls) [] = No BadLength
framing_of [] (c ∷ []) = by_coding c.bytes
framing_of [] (c ∷ d ∷ cs) = No BadLength
framing_of (l ∷ ls) (c ∷ cs) = No BothLengths

-- by the minor version and the fields of a request head
abbrev pub framing : ℕ → Entries FieldValue → Framing
framing minor fields =
    if minor == 0 then No Version
    else framing_of (get_all fields (codes "content-length")) (get_all fields (codes "transfer-encoding"))

-- a byte before the first of parts
abbrev pub before_parts : ℕ → List (List ℕ) → List (List ℕ)
before_parts byte [] = (byte ∷ []) ∷ []
before_parts byte (part ∷ parts) = (byte ∷ part) ∷ parts

-- a value cut at its commas: the parts have none, and joined by commas they are the value
abbrev pub parts_of : List ℕ → List (List ℕ)
parts_of [] = [] ∷ []
parts_of (byte ∷ value) = if byte == 44 then [] ∷ parts_of value else before_parts byte (parts_of value)

-- a part is `close` in any case, with spaces and tabs around it
abbrev pub is_close : List ℕ → Bool
is_close part = str_eq_ignore_ascii_case (trimmed part) (codes "close")

-- some part of some `Connection` field is `close`
unfoldable pub closes : Entries FieldValue → Bool
closes fields =
    list_any (λ (v : FieldValue). list_any is_close (parts_of v.bytes)) (get_all fields (codes "connection"))
