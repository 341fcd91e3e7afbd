-- Rows on the content, read line by line.
use Rattle.std.proofs.Common.{◌≡◌, ℕ, ◌<◌, ◌≤◌, Bool, cond, Result, Ok, Err, Option, Some, None, ok_or, List, [], ◌∷◌, ◌++◌, refl, sym, ap, ◌∙◌, subst, nat_lt}
use Rattle.std.proofs.lemmas.Bool.{lt-ltb, le-ltb}
use Rattle.braid_shelf.specs.declared.fault.ShelfKind.{ShelfKind}
use Rattle.braid_shelf.specs.Lists.{SpellsList, count_member}
use Rattle.braid_shelf.specs.Faults.{IsCountFault}
use Rattle.braid_shelf.proofs.Narrowed.{count_not_both}
use Rattle.braid_fields.specs.declared.reason.Reason.{Reason}
use Rattle.braid_fields.specs.declared.reason.Reason.TheVariants as reasons
use Rattle.braid_fields.specs.declared.parts.Parts.{Parts}
use Rattle.braid_fields.specs.declared.parts.HeadFields.{HeadFields}
use Rattle.braid_fields.specs.declared.range.TextRange.{TextRange}
use Rattle.braid_fields.specs.declared.plan.Asks.{Asks}
use Rattle.braid_fields.specs.declared.plan.PatchPlan.{PatchPlan}
use Rattle.braid_fields.specs.declared.plan.Plan.{Plan}
use Rattle.braid_fields.specs.declared.plan.PlanFault.{PlanFault}
use Rattle.braid_fields.specs.Values.{count_in_value, range_in_value}
use Rattle.braid_fields.specs.Table.{Row, first_row, told, length_of, range_of, count_rows, content_rows, asks_of, field_rows, name_rows, plan_of, judged, patch_plan, length_rows, range_rows, alone_asks, patch_field_rows, told_range_rows, patch_rows, Plans}
use Rattle.braid_fields.specs.Rows.{names_of}
use Rattle.braid_fields.proofs.ValueReading.{count_law}
use Rattle.braid_fields.proofs.Planned.{rows_then, rows_stop, rows_fault, rows_pass, rows_same, fault_first, fault_last}

-- a count

pub count_found : (value : List ℕ) (n : ℕ) → SpellsList (count_member n ∷ []) value → ok_or (count_in_value value) reasons.BadCount ≡ Ok n
count_found value n s = ap (λ (o : Option ℕ). ok_or o reasons.BadCount) ((count_law value n).1 s)

pub count_fault : (value : List ℕ) (at : ℕ) (kind : ShelfKind) → IsCountFault value at kind → ok_or (count_in_value value) reasons.BadCount ≡ Err reasons.BadCount
count_fault value at kind f = go (count_in_value value) refl
  where
    go : (o : Option ℕ) → count_in_value value ≡ o → ok_or o reasons.BadCount ≡ Err reasons.BadCount
    go None e = refl
    go (Some n) e = absurd (count_not_both n value at kind ((count_law value n).0 e) f)

-- what a `?` passes on

pub reason_passed : {A : Type 0} (judged r : Result A Reason) (e fault : Reason) → r ≡ Err e → e ≡ fault → judged ≡ Err fault → r ≡ judged
reason_passed judged r e fault h k p = h ∙ ap (λ (x : Reason). Err x) k ∙ sym p

-- a patch

pub patch_first : (used before : ℕ) (f : HeadFields) (x : PatchPlan) (r : Reason) → Err r ≡ first_row {A = Unit {0}} (patch_field_rows f) (tt {0}) → first_row (patch_rows used before f) x ≡ Err r
patch_first used before f x r e =
    rows_stop (patch_field_rows f) (length_rows None used f.parts.length ++ (told_range_rows f.parts.range ++ (nat_lt (range_of f.parts.range).start before, reasons.Overlap) ∷ [])) x (tt {0}) r (sym e)

-- what is left of a patch's rows where its fields as such have no fault

abbrev overlap_rows : ℕ → List (List ℕ) → List Row
overlap_rows before values = (nat_lt (range_of values).start before, reasons.Overlap) ∷ []

patch_later : (used before : ℕ) (f : HeadFields) (x : PatchPlan) (u : Unit {0}) → Ok u ≡ first_row (patch_field_rows f) (tt {0})
    → first_row (patch_rows used before f) x ≡ first_row (length_rows None used f.parts.length ++ (told_range_rows f.parts.range ++ overlap_rows before f.parts.range)) x
patch_later used before f x u e = rows_then (patch_field_rows f) (length_rows None used f.parts.length ++ (told_range_rows f.parts.range ++ overlap_rows before f.parts.range)) x (tt {0}) u (sym e)

pub patch_second : (used before : ℕ) (f : HeadFields) (x : PatchPlan) (u : Unit {0}) (r : Reason) → Ok u ≡ first_row (patch_field_rows f) (tt {0})
    → Err r ≡ first_row (length_rows None used f.parts.length) (length_of None f.parts.length) → first_row (patch_rows used before f) x ≡ Err r
patch_second used before f x u r e l =
    patch_later used before f x u e ∙ rows_stop (length_rows None used f.parts.length) (told_range_rows f.parts.range ++ overlap_rows before f.parts.range) x (length_of None f.parts.length) r (sym l)

patch_last : (used before : ℕ) (f : HeadFields) (x : PatchPlan) (u : Unit {0}) (len : ℕ) → Ok u ≡ first_row (patch_field_rows f) (tt {0})
    → Ok len ≡ first_row (length_rows None used f.parts.length) (length_of None f.parts.length) → first_row (patch_rows used before f) x ≡ first_row (told_range_rows f.parts.range ++ overlap_rows before f.parts.range) x
patch_last used before f x u len e l =
    patch_later used before f x u e ∙ rows_then (length_rows None used f.parts.length) (told_range_rows f.parts.range ++ overlap_rows before f.parts.range) x (length_of None f.parts.length) len (sym l)

pub patch_third : (used before : ℕ) (f : HeadFields) (x : PatchPlan) (u : Unit {0}) (len : ℕ) (r : Reason) → Ok u ≡ first_row (patch_field_rows f) (tt {0})
    → Ok len ≡ first_row (length_rows None used f.parts.length) (length_of None f.parts.length) → Err r ≡ first_row (told_range_rows f.parts.range) (range_of f.parts.range) → first_row (patch_rows used before f) x ≡ Err r
patch_third used before f x u len r e l g =
    patch_last used before f x u len e l ∙ rows_stop (told_range_rows f.parts.range) (overlap_rows before f.parts.range) x (range_of f.parts.range) r (sym g)

patch_end : (used before : ℕ) (f : HeadFields) (x : PatchPlan) (u : Unit {0}) (len : ℕ) (range : TextRange) → Ok u ≡ first_row (patch_field_rows f) (tt {0})
    → Ok len ≡ first_row (length_rows None used f.parts.length) (length_of None f.parts.length) → Ok range ≡ first_row (told_range_rows f.parts.range) (range_of f.parts.range)
    → first_row (patch_rows used before f) x ≡ cond (nat_lt range.start before) (Err reasons.Overlap) (Ok x)
patch_end used before f x u len range e l g =
    patch_last used before f x u len e l ∙ rows_then (told_range_rows f.parts.range) (overlap_rows before f.parts.range) x (range_of f.parts.range) range (sym g)
    ∙ ap (λ (y : TextRange). first_row ((nat_lt y.start before, reasons.Overlap) ∷ []) x) (rows_same (told_range_rows f.parts.range) (range_of f.parts.range) range (sym g))

pub patch_overlap : (used before : ℕ) (f : HeadFields) (x : PatchPlan) (u : Unit {0}) (len : ℕ) (range : TextRange) → Ok u ≡ first_row (patch_field_rows f) (tt {0})
    → Ok len ≡ first_row (length_rows None used f.parts.length) (length_of None f.parts.length) → Ok range ≡ first_row (told_range_rows f.parts.range) (range_of f.parts.range)
    → range.start < before → first_row (patch_rows used before f) x ≡ Err reasons.Overlap
patch_overlap used before f x u len range e l g b =
    patch_end used before f x u len range e l g ∙ ap (λ (t : Bool). cond t (Err reasons.Overlap) (Ok x)) (lt-ltb range.start before b)

pub patch_planned : (used before : ℕ) (f : HeadFields) (u : Unit {0}) (len : ℕ) (range : TextRange) → Ok u ≡ first_row (patch_field_rows f) (tt {0})
    → Ok len ≡ first_row (length_rows None used f.parts.length) (length_of None f.parts.length) → Ok range ≡ first_row (told_range_rows f.parts.range) (range_of f.parts.range)
    → before ≤ range.start → first_row (patch_rows used before f) (patch_plan (range_of f.parts.range) (length_of None f.parts.length)) ≡ Ok (patch_plan range len)
patch_planned used before f u len range e l g b =
    let x = patch_plan (range_of f.parts.range) (length_of None f.parts.length) in
    let one : range_of f.parts.range ≡ range = rows_same (told_range_rows f.parts.range) (range_of f.parts.range) range (sym g) in
    let two : length_of None f.parts.length ≡ len = rows_same (length_rows None used f.parts.length) (length_of None f.parts.length) len (sym l) in
    patch_end used before f x u len range e l g ∙ ap (λ (t : Bool). cond t (Err reasons.Overlap) (Ok x)) (le-ltb range.start before b) ∙ (λ i. Ok (patch_plan (one i) (two i)))

-- a head

pub plan_first : (transfer : Bool) (given : Option ℕ) (p : Parts) (r : Reason) → Err r ≡ first_row {A = Unit {0}} (field_rows transfer given p) (tt {0}) → judged transfer given p ≡ Err r
plan_first transfer given p r e = rows_stop (field_rows transfer given p) (name_rows p ++ (count_rows p.patches ++ content_rows given p)) (plan_of given p) (tt {0}) r (sym e)

plan_later : (transfer : Bool) (given : Option ℕ) (p : Parts) (u : Unit {0}) → Ok u ≡ first_row (field_rows transfer given p) (tt {0}) → judged transfer given p ≡ first_row (name_rows p ++ (count_rows p.patches ++ content_rows given p)) (plan_of given p)
plan_later transfer given p u e = rows_then (field_rows transfer given p) (name_rows p ++ (count_rows p.patches ++ content_rows given p)) (plan_of given p) (tt {0}) u (sym e)

abbrev Names : Type 0
Names = List ℕ × List (List ℕ)

pub plan_second : (transfer : Bool) (given : Option ℕ) (p : Parts) (u : Unit {0}) (fault : PlanFault) → Ok u ≡ first_row (field_rows transfer given p) (tt {0})
    → Plans {A = Names} (Err fault) (first_row (name_rows p) (names_of p)) → Plans {A = Plan} (Err fault) (judged transfer given p)
plan_second transfer given p u fault e h =
    subst (λ (j : Result Plan Reason). Plans (Err fault) j) (sym (plan_later transfer given p u e)) (fault_first (name_rows p) (count_rows p.patches ++ content_rows given p) (plan_of given p) (names_of p) fault h)

pub plan_third : (transfer : Bool) (given : Option ℕ) (p : Parts) (u : Unit {0}) (names : Names) (fault : PlanFault) → Ok u ≡ first_row (field_rows transfer given p) (tt {0})
    → first_row (name_rows p) (names_of p) ≡ Ok names → Plans {A = Asks} (Err fault) (first_row (count_rows p.patches ++ content_rows given p) (asks_of given p)) → Plans {A = Plan} (Err fault) (judged transfer given p)
plan_third transfer given p u names fault e n h =
    subst (λ (j : Result Plan Reason). Plans (Err fault) j) (sym (plan_later transfer given p u e)) (fault_last (name_rows p) (count_rows p.patches ++ content_rows given p) (plan_of given p) (names_of p) names (asks_of given p) fault n h)

pub plan_made : (transfer : Bool) (given : Option ℕ) (p : Parts) (u : Unit {0}) (id : List ℕ) (parents : List (List ℕ)) (asked : Asks) → Ok u ≡ first_row (field_rows transfer given p) (tt {0})
    → first_row (name_rows p) (names_of p) ≡ Ok (id, parents) → first_row (count_rows p.patches ++ content_rows given p) (asks_of given p) ≡ Ok asked → judged transfer given p ≡ Ok (record { id = id; parents = parents; asks = asked })
plan_made transfer given p u id parents asked e n h =
    let names = rows_same (name_rows p) (names_of p) (id, parents) n in
    let content = rows_same (count_rows p.patches ++ content_rows given p) (asks_of given p) asked h in
    plan_later transfer given p u e ∙ rows_then (name_rows p) (count_rows p.patches ++ content_rows given p) (plan_of given p) (names_of p) (id, parents) n
    ∙ rows_pass (count_rows p.patches ++ content_rows given p) (plan_of given p) (asks_of given p) asked h ∙ (λ i. Ok (record { id = (names i).0; parents = (names i).1; asks = content i }))

-- the content of a head without `Patches`

pub alone_range_fault : (given : Option ℕ) (p : Parts) (len : ℕ) (r : Reason) → Ok len ≡ first_row (length_rows given 0 p.length) (length_of given p.length) → Err r ≡ first_row (range_rows p.range) (told range_in_value p.range)
    → first_row (length_rows given 0 p.length ++ range_rows p.range) (alone_asks given p) ≡ Err r
alone_range_fault given p len r e f =
    rows_then (length_rows given 0 p.length) (range_rows p.range) (alone_asks given p) (length_of given p.length) len (sym e) ∙ rows_fault (range_rows p.range) (alone_asks given p) (told range_in_value p.range) r (sym f)
