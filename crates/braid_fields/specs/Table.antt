-- The table of faults of a head: each row a test and a reason, and the first row that passes counts.
use Rattle.std.specs.Prelude.{◌≡◌, ℕ, ◌+◌, ◌==◌, ◌||◌, not, nat_lt, Bool, false, List, [], ◌∷◌, ◌++◌, length, codes, Option, Some, None, is_none, unwrap_or, bytes_eq, Result, Ok, Err, if◌then◌else◌}
use Rattle.std.specs.List.{list_any, join_with_byte}
use Rattle.std.specs.Str.{str_eq_ignore_ascii_case}
use Rattle.braid_ids.specs.Frontiers.{rising_ids}
use Rattle.braid_fields.specs.declared.reason.Reason.{Reason}
use Rattle.braid_fields.specs.declared.reason.Reason.TheVariants as reasons
use Rattle.braid_fields.specs.declared.parts.Parts.{Parts}
use Rattle.braid_fields.specs.declared.parts.HeadFields.{HeadFields}
use Rattle.braid_fields.specs.declared.range.TextRange.{TextRange}
use Rattle.braid_fields.specs.declared.plan.Plan.{Plan}
use Rattle.braid_fields.specs.declared.plan.Asks.{Asks}
use Rattle.braid_fields.specs.declared.plan.Asks.TheVariants as asks
use Rattle.braid_fields.specs.declared.plan.PatchPlan.{PatchPlan}
use Rattle.braid_fields.specs.declared.plan.PlanFault.{PlanFault}
use Rattle.braid_fields.specs.declared.plan.PlanFault.TheVariants as faults
use Rattle.braid_fields.specs.Fields.{Field}
use Rattle.braid_fields.specs.Values.{strings_in_value, count_in_value, length_in_value, has_other_unit, range_in_value}
use Rattle.braid_fields.specs.Known.{is_there, known}

-- a test that was made, and the reason where it passed
abbrev pub Row : Type 0
Row = Bool × Reason

-- the reason of the first row whose test passed, or the answer where none did
abbrev pub first_row : {A : Type 0} → List Row → A → Result A Reason
first_row [] x = Ok x
first_row (row ∷ rows) x = if row.0 then Err row.1 else first_row rows x

-- a `Content-Encoding` other than `identity`, in any case of its letters
unfoldable pub is_encoded : List (List ℕ) → Bool
is_encoded values = list_any (λ value. not (str_eq_ignore_ascii_case value (codes "identity"))) values

-- two lines or more
abbrev pub is_repeated : List (List ℕ) → Bool
is_repeated values = nat_lt 1 (length values)

-- `ti-text` or `"ti-text"`
abbrev pub is_merge_type : List ℕ → Bool
is_merge_type value = bytes_eq value (codes "ti-text") || bytes_eq value (codes "\"ti-text\"")

-- a `Merge-Type` that is neither `ti-text` nor `"ti-text"`
unfoldable pub is_other_merge_type : List (List ℕ) → Bool
is_other_merge_type values = list_any (λ value. not (is_merge_type value)) values

-- the lines of a field, joined by commas
abbrev pub one_value : List (List ℕ) → List ℕ
one_value values = join_with_byte 44 values

-- joined lines that are no list of Strings without parameters
abbrev pub is_no_list : List (List ℕ) → Bool
is_no_list values = is_none (strings_in_value (one_value values))

-- the Strings of joined lines
unfoldable pub members_of : List (List ℕ) → List (List ℕ)
members_of values = unwrap_or (strings_in_value (one_value values)) []

-- the first member, or no bytes where there is none
abbrev pub first_of : List (List ℕ) → List ℕ
first_of [] = []
first_of (member ∷ members) = member

-- bytes with no byte or more than 128
abbrev pub is_bad_id : List ℕ → Bool
is_bad_id bytes = (length bytes == 0) || nat_lt 128 (length bytes)

-- a member that has no byte or more than 128
unfoldable pub has_bad_id : List (List ℕ) → Bool
has_bad_id members = list_any is_bad_id members

-- what the first line tells by a reading
abbrev pub told : {A : Type 0} → (List ℕ → Option A) → List (List ℕ) → Option A
told reading [] = None
told reading (value ∷ values) = reading value

-- a first line that tells nothing by a reading
abbrev pub tells_nothing : {A : Type 0} → (List ℕ → Option A) → List (List ℕ) → Bool
tells_nothing reading [] = false
tells_nothing reading (value ∷ values) = is_none (reading value)

-- the number of patches
abbrev pub count_of : List (List ℕ) → ℕ
count_of values = unwrap_or (told count_in_value values) 0

-- the lines of `Content-Length` that are looked at: none where the length is given otherwise
abbrev pub length_lines : Option ℕ → List (List ℕ) → List (List ℕ)
length_lines None values = values
length_lines (Some len) values = []

-- no length is given, and no line tells it
abbrev pub is_no_length : Option ℕ → List (List ℕ) → Bool
is_no_length None values = not (is_there values)
is_no_length (Some len) values = false

-- the length that is given or that the line tells
abbrev pub length_of : Option ℕ → List (List ℕ) → ℕ
length_of None values = unwrap_or (told length_in_value values) 0
length_of (Some len) values = len

-- a range of another unit
abbrev pub is_other_unit : List (List ℕ) → Bool
is_other_unit [] = false
is_other_unit (value ∷ values) = has_other_unit value

-- what stands for a range where there is none; no plan has it
abbrev pub no_range : TextRange
no_range = record { start = 0; end = 0 }

-- the range, where there is one
abbrev pub range_of : List (List ℕ) → TextRange
range_of values = unwrap_or (told range_in_value values) no_range

-- a range whose start is above its end
abbrev pub is_backwards : TextRange → Bool
is_backwards range = nat_lt range.end range.start

-- rows on the fields of an update's head as such
abbrev pub field_rows : Bool → Option ℕ → Parts → List Row
field_rows transfer given p =
    (transfer || is_encoded p.encoding, reasons.Encoded)
    ∷ (
      is_repeated p.patches || is_repeated (length_lines given p.length) || is_repeated p.range
          || is_repeated p.merge_type,
      reasons.RepeatedField,
    )
    ∷ (is_other_merge_type p.merge_type, reasons.OtherMergeType)
    ∷ []

-- rows on its identifier and its parents
abbrev pub name_rows : Parts → List Row
name_rows p =
    (is_no_list p.version || is_no_list p.parents, reasons.BadList)
    ∷ (length (members_of p.version) == 0, reasons.NoVersion)
    ∷ (nat_lt 1 (length (members_of p.version)), reasons.ManyVersions)
    ∷ (has_bad_id (members_of p.version) || has_bad_id (members_of p.parents), reasons.BadId)
    ∷ (nat_lt 32 (length (rising_ids (members_of p.parents))), reasons.TooManyParents)
    ∷ []

-- rows on its number of patches
abbrev pub count_rows : List (List ℕ) → List Row
count_rows values =
    (tells_nothing count_in_value values, reasons.BadCount)
    ∷ (nat_lt 1_000 (count_of values), reasons.TooManyPatches)
    ∷ []

-- rows on a length that is given or told
abbrev pub len_rows : Option ℕ → List (List ℕ) → List Row
len_rows given values =
    (is_no_length given values, reasons.NoLength)
    ∷ (tells_nothing length_in_value (length_lines given values), reasons.BadLength)
    ∷ []

-- and on how long it is, behind contents of `used` bytes
abbrev pub length_rows : Option ℕ → ℕ → List (List ℕ) → List Row
length_rows given used values =
    len_rows given values ++ (nat_lt 1_048_576 (used + length_of given values), reasons.TooLong) ∷ []

-- rows on the form of a range
abbrev pub form_rows : List (List ℕ) → List Row
form_rows values =
    (is_other_unit values, reasons.OtherUnit)
    ∷ (tells_nothing range_in_value values, reasons.BadRange)
    ∷ []

-- and on its order
abbrev pub range_rows : List (List ℕ) → List Row
range_rows values = form_rows values ++ (is_backwards (range_of values), reasons.Backwards) ∷ []

-- rows on a range beside `Patches`, where none may stand
abbrev pub beside_rows : List (List ℕ) → List Row
beside_rows values =
    (is_other_unit values, reasons.OtherUnit)
    ∷ (is_there values, reasons.BadRange)
    ∷ []

-- rows on the content of an update's head: with `Patches` no length is looked at, and no range may stand there
abbrev pub content_rows : Option ℕ → Parts → List Row
content_rows given p = if is_there p.patches then beside_rows p.range
    else (length_rows given 0 p.length ++ range_rows p.range)

-- rows on the fields of a patch's head as such
abbrev pub patch_field_rows : HeadFields → List Row
patch_field_rows f =
    (f.has_transfer_encoding || is_encoded f.parts.encoding, reasons.Encoded)
    ∷ (is_repeated f.parts.length || is_repeated f.parts.range, reasons.RepeatedField)
    ∷ []

-- rows on the range that a patch has to have
abbrev pub told_range_rows : List (List ℕ) → List Row
told_range_rows values = (not (is_there values), reasons.NoRange) ∷ range_rows values

-- rows on the head of a patch, where the contents before it have `used` bytes and the patch before it ends at `before`
abbrev pub patch_rows : ℕ → ℕ → HeadFields → List Row
patch_rows used before f =
    patch_field_rows f
    ++ (length_rows None used f.parts.length
    ++ (told_range_rows f.parts.range
    ++ (nat_lt (range_of f.parts.range).start before, reasons.Overlap) ∷ []))

-- a patch with a range and a length
abbrev pub patch_plan : TextRange → ℕ → PatchPlan
patch_plan range len = record { start = range.start; end = range.end; len = len }

-- the content that a head without `Patches` asks for
abbrev pub alone_asks : Option ℕ → Parts → Asks
alone_asks given p =
    if is_there p.range then asks.OnePatch (patch_plan (range_of p.range) (length_of given p.length))
    else asks.Body (length_of given p.length)

-- the content that a head asks for
abbrev pub asks_of : Option ℕ → Parts → Asks
asks_of given p = if is_there p.patches then asks.Patches (count_of p.patches) else alone_asks given p

-- the plan of a head
abbrev pub plan_of : Option ℕ → Parts → Plan
plan_of given p = record {
  id = first_of (members_of p.version);
  parents = rising_ids (members_of p.parents);
  asks = asks_of given p;
}

-- what the rows say of an update's head, in their order
abbrev pub judged : Bool → Option ℕ → Parts → Result Plan Reason
judged transfer given p =
    first_row (field_rows transfer given p
    ++ (name_rows p ++ (count_rows p.patches ++ content_rows given p))) (plan_of given p)

-- the plan of an update's head, or the first reason against it
unfoldable pub judge_head : List Field → Result Plan Reason
judge_head fs = judged (known fs).has_transfer_encoding None (known fs).parts

-- the plan of a PUT whose body has so many bytes, or the first reason against it
unfoldable pub judge_put : ℕ → Parts → Result Plan Reason
judge_put len p = judged false (Some len) p

-- the plan of a patch's head, or the first reason against it
unfoldable pub judge_patch : ℕ → ℕ → List Field → Result PatchPlan Reason
judge_patch used before fs =
    first_row (patch_rows used before (known fs))
    (patch_plan (range_of (known fs).parts.range) (length_of None (known fs).parts.length))

-- an answer is the plan or the reason that was judged. Memory may come for any head
abbrev pub Plans : {A : Type 0} → Result A PlanFault → Result A Reason → Type 0
Plans (Ok plan) judged = judged ≡ Ok plan
Plans (Err (faults.Reason reason)) judged = judged ≡ Err reason
Plans (Err faults.Memory) judged = Unit {0}
