-- Rows of the table that one part of a reader tries, and what its answer says.
use Rattle.std.specs.Prelude.{◌≡◌, ℕ, ◌==◌, nat_lt, List, [], ◌∷◌, length, Result, Err}
use Rattle.std.specs.List.{AllByRecursion}
use Rattle.braid_ids.specs.Frontiers.{rising_ids}
use Rattle.braid_shelf.specs.ByteClasses.{Are, is_printable}
use Rattle.braid_fields.specs.declared.reason.Reason.{Reason}
use Rattle.braid_fields.specs.declared.reason.Reason.TheVariants as reasons
use Rattle.braid_fields.specs.declared.parts.Parts.{Parts}
use Rattle.braid_fields.specs.declared.range.TextRange.{TextRange}
use Rattle.braid_fields.specs.declared.plan.PlanFault.{PlanFault}
use Rattle.braid_fields.specs.declared.plan.PlanFault.TheVariants as faults
use Rattle.braid_fields.specs.Table.{Row, first_row, is_no_list, is_bad_id, has_bad_id, members_of, first_of, form_rows, range_of}

-- strings of printable bytes
abbrev pub ArePrintable : List (List ℕ) → Type 0
ArePrintable strings = AllByRecursion (Are is_printable) strings

-- rows on one string that is to be an identifier
abbrev pub one_id_rows : List ℕ → List Row
one_id_rows string = (is_bad_id string, reasons.BadId) ∷ []

-- rows on strings that are to be identifiers
abbrev pub id_rows : List (List ℕ) → List Row
id_rows strings = (has_bad_id strings, reasons.BadId) ∷ []

-- rows on the strings of `Version`
abbrev pub version_rows : List (List ℕ) → List Row
version_rows strings =
    (length strings == 0, reasons.NoVersion)
    ∷ (nat_lt 1 (length strings), reasons.ManyVersions)
    ∷ (has_bad_id strings, reasons.BadId)
    ∷ []

-- rows on the strings of `Parents`
abbrev pub parent_rows : List (List ℕ) → List Row
parent_rows strings =
    (has_bad_id strings, reasons.BadId)
    ∷ (nat_lt 32 (length (rising_ids strings)), reasons.TooManyParents)
    ∷ []

-- rows on the lines of a field that lists identifiers
abbrev pub list_rows : List (List ℕ) → List Row
list_rows values =
    (is_no_list values, reasons.BadList)
    ∷ (has_bad_id (members_of values), reasons.BadId)
    ∷ []

-- the identifier and the parents of a head
abbrev pub names_of : Parts → List ℕ × List (List ℕ)
names_of p = (first_of (members_of p.version), rising_ids (members_of p.parents))

-- the range of a value, or what is wrong with its form
abbrev pub one_range : List ℕ → Result TextRange Reason
one_range value = first_row (form_rows (value ∷ [])) (range_of (value ∷ []))

-- a fault is the reason that was judged. Memory may come for any head
abbrev pub Refuses : {A : Type 0} → PlanFault → Result A Reason → Type 0
Refuses (faults.Reason reason) judged = judged ≡ Err reason
Refuses faults.Memory judged = Unit {0}
