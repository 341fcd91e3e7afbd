-- What bytes an identifier may have, which fault bytes have that are none, and how identifiers are spelled.
use Rattle.std.specs.Prelude.{◌≡◌, ℕ, ◌<◌, ◌≤◌, ◌||◌, ◌==◌, if◌then◌else◌, List, [], ◌∷◌, ◌++◌, length, slice_index, flat_map}
use Rattle.std.specs.Ordering.{nat_cmp}
use Rattle.std.specs.declared.cmp.Ordering.{Ordering}
use Rattle.std.specs.Cmp.Lexicographic.{slice_cmp}
use Rattle.braid_ids.specs.declared.id.IdFault.{IdFault}
use Rattle.braid_ids.specs.declared.id.IdFault.TheVariants.{Empty, TooLong, BadByte, Memory}

-- a byte from space to tilde
abbrev pub IsPrintable : ℕ → Type 0
IsPrintable byte = (0x20 ≤ byte) × (byte ≤ 0x7e)

-- 1 to 128 bytes from space to tilde
pub record IsIdentifier (bytes : List ℕ) : Type 0 where
  pub some : 0 < length bytes
  pub short : length bytes ≤ 128
  pub printable : (k : ℕ) → k < length bytes → IsPrintable (slice_index bytes k)

-- the order of identifiers: at the first difference the smaller byte comes first, and a front before the whole
abbrev pub id_cmp : List ℕ → List ℕ → Ordering
id_cmp = slice_cmp nat_cmp

-- the fault of bytes that are no identifier: the first of these in this order. Memory may come for any bytes
abbrev pub IsIdFault : List ℕ → IdFault → Type 0
IsIdFault bytes Empty = bytes ≡ []
IsIdFault bytes (TooLong len) = (128 < length bytes) × (len ≡ length bytes)
IsIdFault bytes (BadByte at byte) =
    (length bytes ≤ 128) × (at < length bytes) × (byte ≡ slice_index bytes at) × ¬ (IsPrintable byte)
    × ((k : ℕ) → k < at → IsPrintable (slice_index bytes k))
IsIdFault bytes Memory = Unit {0}

-- a byte within quotes: a quote and a backslash have a backslash before them
abbrev pub escaped : ℕ → List ℕ
escaped byte = if (byte == 34) || (byte == 92) then 92 ∷ byte ∷ [] else (byte ∷ [])

-- an identifier as a String of a header list
abbrev pub spelled_id : List ℕ → List ℕ
spelled_id id = 34 ∷ flat_map escaped id ++ 34 ∷ []

-- identifiers as a List of Strings (RFC 8941, section 3.1): each after the first behind a comma and a space
abbrev pub spelled_ids : List (List ℕ) → List ℕ
spelled_ids [] = []
spelled_ids (id ∷ ids) = spelled_id id ++ flat_map (λ other. 44 ∷ 32 ∷ spelled_id other) ids
