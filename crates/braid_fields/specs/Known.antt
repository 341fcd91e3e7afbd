-- The known fields of a head.
use Rattle.std.specs.Prelude.{ℕ, nat_lt, Bool, List, length, map, filter, codes}
use Rattle.std.specs.Str.{str_eq_ignore_ascii_case}
use Rattle.braid_fields.specs.Fields.{Field}
use Rattle.braid_fields.specs.declared.parts.Parts.{Parts}
use Rattle.braid_fields.specs.declared.parts.HeadFields.{HeadFields}

-- whether a field has a name, in any case of its letters
abbrev pub has_name : List ℕ → Field → Bool
has_name name f = str_eq_ignore_ascii_case f.name name

-- the values of the fields of a name, in the order of the lines
abbrev pub values_of : List ℕ → List Field → List (List ℕ)
values_of name fs = map (λ (f : Field). f.value) (filter (has_name name) fs)

-- whether there is a line
abbrev pub is_there : List (List ℕ) → Bool
is_there values = nat_lt 0 (length values)

-- the values of the known fields, but for `Transfer-Encoding`
abbrev pub parts_of : List Field → Parts
parts_of fs = record {
  version = values_of (codes "Version") fs;
  parents = values_of (codes "Parents") fs;
  merge_type = values_of (codes "Merge-Type") fs;
  patches = values_of (codes "Patches") fs;
  length = values_of (codes "Content-Length") fs;
  range = values_of (codes "Content-Range") fs;
  encoding = values_of (codes "Content-Encoding") fs;
}

-- the known fields
unfoldable pub known : List Field → HeadFields
known fs = record { parts = parts_of fs; has_transfer_encoding = is_there (values_of (codes "Transfer-Encoding") fs) }
