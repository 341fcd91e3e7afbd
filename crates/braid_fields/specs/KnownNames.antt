-- Which of the known fields a name is of, and what one field more adds to them.
use Rattle.std.specs.Prelude.{◌≡◌, ℕ, true, false, List, [], ◌∷◌, ◌++◌, codes}
use Rattle.std.specs.Str.{str_eq_ignore_ascii_case}
use Rattle.braid_fields.specs.declared.known_name.KnownName.{KnownName}
use Rattle.braid_fields.specs.declared.known_name.KnownName.TheVariants.{Version, Parents, MergeType, Patches, ContentLength, ContentRange, ContentEncoding, TransferEncoding, Other}
use Rattle.braid_fields.specs.declared.parts.HeadFields.{HeadFields}

-- a name is this one, in any case of its letters
abbrev pub IsLike : List ℕ → List ℕ → Type 0
IsLike known name = str_eq_ignore_ascii_case name known ≡ true

-- a name is not this one
abbrev pub IsUnlike : List ℕ → List ℕ → Type 0
IsUnlike known name = str_eq_ignore_ascii_case name known ≡ false

-- what a name is, in any case of its letters
abbrev pub IsNamed : KnownName → List ℕ → Type 0
IsNamed Version name = IsLike (codes "Version") name
IsNamed Parents name = IsLike (codes "Parents") name
IsNamed MergeType name = IsLike (codes "Merge-Type") name
IsNamed Patches name = IsLike (codes "Patches") name
IsNamed ContentLength name = IsLike (codes "Content-Length") name
IsNamed ContentRange name = IsLike (codes "Content-Range") name
IsNamed ContentEncoding name = IsLike (codes "Content-Encoding") name
IsNamed TransferEncoding name = IsLike (codes "Transfer-Encoding") name
IsNamed Other name =
    IsUnlike (codes "Version") name × IsUnlike (codes "Parents") name × IsUnlike (codes "Merge-Type") name
    × IsUnlike (codes "Patches") name
    × IsUnlike (codes "Content-Length") name × IsUnlike (codes "Content-Range") name
    × IsUnlike (codes "Content-Encoding") name
    × IsUnlike (codes "Transfer-Encoding") name

-- a value behind those of its field
abbrev pub with_value : KnownName → List ℕ → HeadFields → HeadFields
with_value Version value h = record h { parts = record h.parts { version = h.parts.version ++ value ∷ [] } }
with_value Parents value h = record h { parts = record h.parts { parents = h.parts.parents ++ value ∷ [] } }
with_value MergeType value h = record h { parts = record h.parts { merge_type = h.parts.merge_type ++ value ∷ [] } }
with_value Patches value h = record h { parts = record h.parts { patches = h.parts.patches ++ value ∷ [] } }
with_value ContentLength value h = record h { parts = record h.parts { length = h.parts.length ++ value ∷ [] } }
with_value ContentRange value h = record h { parts = record h.parts { range = h.parts.range ++ value ∷ [] } }
with_value ContentEncoding value h = record h { parts = record h.parts { encoding = h.parts.encoding ++ value ∷ [] } }
with_value TransferEncoding value h = record h { has_transfer_encoding = true }
with_value Other value h = h
