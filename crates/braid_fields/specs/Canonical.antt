-- The fields of the heads of a canonical spelling, and what they plan.
use Rattle.std.specs.Prelude.{ℕ, List, [], ◌∷◌, ◌++◌, length, codes, decimal, encode_utf8_all}
use Rattle.braid_ids.specs.Identifiers.{spelled_id, spelled_ids}
use Rattle.braid_change.specs.Updates.{UpdateView}
use Rattle.braid_change.specs.Spellings.{list_text, range_text}
use Rattle.braid_change.specs.declared.patch.Patch.{Patch}
use Rattle.braid_change.specs.declared.change.Change.{Change}
use Rattle.braid_change.specs.declared.change.Change.TheVariants.{Body, Patches}
use Rattle.braid_fields.specs.declared.plan.Plan.{Plan}
use Rattle.braid_fields.specs.declared.plan.Asks.{Asks}
use Rattle.braid_fields.specs.declared.plan.Asks.TheVariants as asks
use Rattle.braid_fields.specs.declared.plan.PatchPlan.{PatchPlan}
use Rattle.braid_fields.specs.Fields.{Field}

-- the lines of the head of an update: its identifier, its parents, and the number of its patches
abbrev pub version_line : List ℕ → List ℕ
version_line id = codes "Version: " ++ (spelled_id id ++ codes "\r\n")

abbrev pub parents_line : List (List ℕ) → List ℕ
parents_line parents = codes "Parents:" ++ (list_text parents ++ codes "\r\n")

abbrev pub patches_line : ℕ → List ℕ
patches_line count = codes "Patches: " ++ (decimal count ++ codes "\r\n")

-- the lines of the head of a body or a patch: its length, and its range
abbrev pub length_line : ℕ → List ℕ
length_line len = codes "Content-Length: " ++ (decimal len ++ codes "\r\n")

abbrev pub range_line : ℕ → ℕ → List ℕ
range_line start end = codes "Content-Range: " ++ (range_text start end ++ codes "\r\n")

-- the field that tells what a change is
abbrev pub change_field : Change → Field
change_field (Body text) = record { name = codes "Content-Length"; value = decimal (length (encode_utf8_all text)) }
change_field (Patches patches) = record { name = codes "Patches"; value = decimal (length patches) }

-- the fields of the head of an update
abbrev pub head_fields : UpdateView → List Field
head_fields u =
    record { name = codes "Version"; value = spelled_id u.id }
    ∷ record { name = codes "Parents"; value = spelled_ids u.parents }
    ∷ change_field u.change
    ∷ []

-- the fields of the head of a patch
abbrev pub patch_fields : Patch → List Field
patch_fields p =
    record { name = codes "Content-Length"; value = decimal (length (encode_utf8_all p.text)) }
    ∷ record { name = codes "Content-Range"; value = range_text p.start p.end }
    ∷ []

-- the content of a change
abbrev pub change_asks : Change → Asks
change_asks (Body text) = asks.Body (length (encode_utf8_all text))
change_asks (Patches patches) = asks.Patches (length patches)

-- the plan of an update
abbrev pub update_plan : UpdateView → Plan
update_plan u = record { id = u.id; parents = u.parents; asks = change_asks u.change }

-- the plan of a patch
abbrev pub plan_of_patch : Patch → PatchPlan
plan_of_patch p = record { start = p.start; end = p.end; len = length (encode_utf8_all p.text) }
