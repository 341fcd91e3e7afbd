-- Heads read line by line: what lines say of the head that they begin.
use Rattle.std.specs.Prelude.{ℕ, ◌+◌, List, [], ◌∷◌, ◌++◌, Option, Some, None, length, if◌then◌else◌}
use Rattle.braid_fields.specs.declared.reason.Reason.{Reason}
use Rattle.braid_fields.specs.declared.reason.Reason.TheVariants.{BadLine, BadStatus}
use Rattle.braid_fields.specs.Lines.{is_empty_line}
use Rattle.braid_fields.specs.Fields.{Field, field_of}
use Rattle.braid_fields.specs.Statuses.{is_status, is_good_status}

-- what lines say of a head: it is not whole yet, wrong at a place for a reason, or whole with its fields and its length.
-- Places and lengths count from the first line
pub data Verdict : Type 0 where
  Open : Verdict
  Wrong : ℕ → Reason → Verdict
  Closed : List Field → ℕ → Verdict

-- the same behind so many bytes, which had these fields
abbrev pub behind : ℕ → List Field → Verdict → Verdict
behind n fs Open = Open
behind n fs (Wrong k r) = Wrong (n + k) r
behind n fs (Closed gs k) = Closed (fs ++ gs) (n + k)

-- a line of so many bytes with a field, or with none, and what the lines after it say
abbrev pub with_field : Option Field → ℕ → Verdict → Verdict
with_field None n v = Wrong 0 BadLine
with_field (Some f) n v = behind n (f ∷ []) v

-- field lines up to an empty line
abbrev pub fields_of : List (List ℕ) → Verdict
fields_of [] = Open
fields_of (l ∷ ls) = if is_empty_line l then Closed [] (length l) else with_field (field_of l) (length l) (fields_of ls)

-- a field line, and further ones up to an empty line: the head of a patch
abbrev pub some_fields_of : List (List ℕ) → Verdict
some_fields_of [] = Open
some_fields_of (l ∷ ls) = if is_empty_line l then Wrong 0 BadLine else with_field (field_of l) (length l) (fields_of ls)

-- the same, where a status line may come first: the head of an update
abbrev pub head_of : List (List ℕ) → Verdict
head_of [] = Open
head_of (l ∷ ls) =
    if is_status l then (if is_good_status l then behind (length l) [] (some_fields_of ls) else Wrong 0 BadStatus)
    else some_fields_of (l ∷ ls)
