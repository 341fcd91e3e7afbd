-- A plan keeps to its limits.
use Rattle.std.proofs.Common.{◌≡◌, ℕ, zero, suc, ◌+◌, Contains, ◌<◌, ◌≤◌, ◌^◌, ◌==◌, ◌||◌, Bool, true, false, cond, Ok, Err, Option, Some, None, is_none, unwrap_or, List, [], ◌∷◌, ◌++◌, length, get_or, refl, subst, arith, nat_lt, nat_le}
use Rattle.std.specs.List.{AllByRecursion}
use Rattle.std.proofs.lemmas.Bool.{ltb-false, leb-true, eqb-false, and_parts}
use Rattle.braid_ids.specs.Identifiers.{IsPrintable, IsIdentifier}
use Rattle.braid_ids.specs.Frontiers.{rising_ids}
use Rattle.braid_ids.proofs.Rising.{member_of}
use Rattle.braid_ids.proofs.Inserted.{rises_ids, rising_members}
use Rattle.braid_shelf.specs.ByteClasses.{Are, is_printable}
use Rattle.braid_fields.specs.declared.parts.Parts.{Parts}
use Rattle.braid_fields.specs.declared.parts.HeadFields.{HeadFields}
use Rattle.braid_fields.specs.declared.range.TextRange.{TextRange}
use Rattle.braid_fields.specs.declared.plan.Plan.{Plan}
use Rattle.braid_fields.specs.declared.plan.Asks.TheVariants as asks
use Rattle.braid_fields.specs.declared.plan.PatchPlan.{PatchPlan}
use Rattle.braid_fields.specs.Fields.{Field}
use Rattle.braid_fields.specs.Values.{strings_in_value, range_in_value}
use Rattle.braid_fields.specs.Known.{is_there, known}
use Rattle.braid_fields.specs.Table.{Row, first_row, one_value, is_no_list, members_of, first_of, is_bad_id, has_bad_id, tells_nothing, count_of, length_of, no_range, range_of, field_rows, name_rows, count_rows, length_rows, range_rows, beside_rows, content_rows, patch_rows, patch_plan, alone_asks, asks_of, plan_of, judged, judge_head, judge_put, judge_patch}
use Rattle.braid_fields.specs.Rows.{ArePrintable}
use Rattle.braid_fields.specs.Limits.{IsPatchWithin, IsAskedWithin, IsPlanWithin}
use Rattle.braid_fields.proofs.ValueReading.{strings_law}
use Rattle.braid_fields.proofs.RangeReading.{range_law}
use Rattle.braid_fields.proofs.NameRows.{spelled_printable}
use Rattle.braid_fields.proofs.Planned.{rows_same}

-- no row passed
abbrev AreClear : List Row → Type 0
AreClear rows = AllByRecursion (λ (row : Row). row.0 ≡ false) rows

clear : {A : Type 0} (rows : List Row) (x y : A) → first_row rows x ≡ Ok y → AreClear rows
clear [] x y e = tt
clear (row ∷ rows) x y e = go row.0 refl e (clear rows x y)
  where
    go : (t : Bool) → row.0 ≡ t → cond t (Err row.1) (first_row rows x) ≡ Ok y → (first_row rows x ≡ Ok y → AreClear rows) → (row.0 ≡ false) × AreClear rows
    go true h e later = absurd cc
    go false h e later = (h, later e)

clear_parts : (rows others : List Row) → AreClear (rows ++ others) → AreClear rows × AreClear others
clear_parts [] others h = (tt, h)
clear_parts (row ∷ rows) others h = let p = clear_parts rows others h.1 in ((h.0, p.0), p.1)

or_parts : (s t : Bool) → (s || t) ≡ false → (s ≡ false) × (t ≡ false)
or_parts true t e = absurd cc
or_parts false t e = (refl, e)

-- the members of joined lines that are a list

members_printable : (values : List (List ℕ)) → is_no_list values ≡ false → ArePrintable (members_of values)
unfolding members_of
members_printable values e = go (strings_in_value (one_value values)) refl e
  where
    go : (o : Option (List (List ℕ))) → strings_in_value (one_value values) ≡ o → is_none o ≡ false → ArePrintable (unwrap_or o [])
    go None h e = absurd cc
    go (Some strings) h e = spelled_printable strings (one_value values) ((strings_law (one_value values) strings).0 h)

printable_at : (bytes : List ℕ) → Are is_printable bytes → (k : ℕ) → k < length bytes → IsPrintable (get_or bytes k 0)
printable_at [] h k l = absurd (omega arith)
printable_at (byte ∷ bytes) h zero l = let p = and_parts (nat_le 0x20 byte) (nat_le byte 0x7e) h.0 in (leb-true 0x20 byte p.0, leb-true byte 0x7e p.1)
printable_at (byte ∷ bytes) h (suc k) l = printable_at bytes h.1 k (omega arith)

good_id : (bytes : List ℕ) → Are is_printable bytes → is_bad_id bytes ≡ false → IsIdentifier bytes
good_id bytes h e =
    let p = or_parts (length bytes == 0) (nat_lt 128 (length bytes)) e in
    let some = eqb-false (length bytes) 0 p.0 in
    record { some = omega arith; short = ltb-false 128 (length bytes) p.1; printable = printable_at bytes h }

good_ids : (strings : List (List ℕ)) → ArePrintable strings → has_bad_id strings ≡ false → AllByRecursion IsIdentifier strings
unfolding has_bad_id
good_ids [] h e = tt
good_ids (string ∷ strings) h e = let p = or_parts (is_bad_id string) (has_bad_id strings) e in (good_id string h.0 p.0, good_ids strings h.1 p.1)

all_members : (P : List ℕ → Type 0) (xs : List (List ℕ)) → ((x : List ℕ) → Contains xs x → P x) → AllByRecursion P xs
all_members P [] h = tt
all_members P (x ∷ xs) h = (h x (0, omega arith, refl), all_members P xs (λ y c. h y (suc c.0, omega (arith, c.1), c.2)))

rising_good : (strings : List (List ℕ)) → AllByRecursion IsIdentifier strings → AllByRecursion IsIdentifier (rising_ids strings)
rising_good strings h = all_members IsIdentifier (rising_ids strings) (λ id c. member_of IsIdentifier strings id h ((rising_members strings id).0 c))

first_good : (strings : List (List ℕ)) → AllByRecursion IsIdentifier strings → length strings == 0 ≡ false → IsIdentifier (first_of strings)
first_good [] h e = absurd cc
first_good (string ∷ strings) h e = h.0

-- the range

range_small : (values : List (List ℕ)) → tells_nothing range_in_value values ≡ false → (range_of values).end < 2 ^ 32
range_small [] e = omega arith
range_small (value ∷ values) e = go (range_in_value value) refl e
  where
    go : (o : Option TextRange) → range_in_value value ≡ o → is_none o ≡ false → (unwrap_or o no_range).end < 2 ^ 32
    go None h e = absurd cc
    go (Some range) h e = let r = (range_law value range).0 h in r.1.small

-- the content

asked_within : (given : Option ℕ) (p : Parts) → AreClear (count_rows p.patches) → AreClear (content_rows given p) → IsAskedWithin (asks_of given p)
asked_within given p (c, (d, u)) h = go (is_there p.patches) h
  where
    inner : (t : Bool) → length_of given p.length ≤ 1048576 → (range_of p.range).start ≤ (range_of p.range).end → (range_of p.range).end < 2 ^ 32
        → IsAskedWithin (cond t (asks.OnePatch (patch_plan (range_of p.range) (length_of given p.length))) (asks.Body (length_of given p.length)))
    inner true l f s = record { apart = omega arith; forwards = f; numbered = s; short = omega arith }
    inner false l f s = l

    alone : AreClear (length_rows given 0 p.length) × AreClear (range_rows p.range) → IsAskedWithin (alone_asks given p)
    alone ((none, (bad, (long, v))), (unit, (other, (back, w)))) =
        let short : 0 + length_of given p.length ≤ 1048576 = ltb-false 1048576 (0 + length_of given p.length) long in
        inner (is_there p.range) (omega (arith, short)) (ltb-false (range_of p.range).end (range_of p.range).start back) (range_small p.range other)

    go : (t : Bool) → AreClear (cond t (beside_rows p.range) (length_rows given 0 p.length ++ range_rows p.range)) → IsAskedWithin (cond t (asks.Patches (count_of p.patches)) (alone_asks given p))
    go true h = ltb-false 1000 (count_of p.patches) d
    go false h = alone (clear_parts (length_rows given 0 p.length) (range_rows p.range) h)

pub plan_within : (transfer : Bool) (given : Option ℕ) (p : Parts) (plan : Plan) → judged transfer given p ≡ Ok plan → IsPlanWithin plan
plan_within transfer given p plan e = subst IsPlanWithin (rows_same rows (plan_of given p) plan e) (made all.1)
  where
    rows : List Row
    rows = field_rows transfer given p ++ (name_rows p ++ (count_rows p.patches ++ content_rows given p))

    all : AreClear (field_rows transfer given p) × AreClear (name_rows p ++ (count_rows p.patches ++ content_rows given p))
    all = clear_parts (field_rows transfer given p) (name_rows p ++ (count_rows p.patches ++ content_rows given p)) (clear rows (plan_of given p) plan e)

    made : AreClear (name_rows p ++ (count_rows p.patches ++ content_rows given p)) → IsPlanWithin (plan_of given p)
    made h =
        let q = clear_parts (name_rows p) (count_rows p.patches ++ content_rows given p) h in
        let c = clear_parts (count_rows p.patches) (content_rows given p) q.1 in
        let lists = or_parts (is_no_list p.version) (is_no_list p.parents) q.0.0 in
        let ids = or_parts (has_bad_id (members_of p.version)) (has_bad_id (members_of p.parents)) q.0.1.1.1.0 in
        let version = good_ids (members_of p.version) (members_printable p.version lists.0) ids.0 in
        let parents = good_ids (members_of p.parents) (members_printable p.parents lists.1) ids.1 in
        record {
          identifier = first_good (members_of p.version) version q.0.1.0;
          parents = rising_good (members_of p.parents) parents;
          rising = rises_ids (members_of p.parents);
          few = ltb-false 32 (length (rising_ids (members_of p.parents))) q.0.1.1.1.1.0;
          asked = asked_within given p c.0 c.1;
        }

-- the plan of a head is within its limits
pub head_within : (fs : List Field) (plan : Plan) → judge_head fs ≡ Ok plan → IsPlanWithin plan
unfolding judge_head
head_within fs plan e = plan_within (known fs).has_transfer_encoding None (known fs).parts plan e

-- and that of a PUT
pub put_within : (len : ℕ) (p : Parts) (plan : Plan) → judge_put len p ≡ Ok plan → IsPlanWithin plan
unfolding judge_put
put_within len p plan e = plan_within false (Some len) p plan e

-- and that of a patch
pub patch_within : (used before : ℕ) (fs : List Field) (p : PatchPlan) → judge_patch used before fs ≡ Ok p → IsPatchWithin used before p
unfolding judge_patch
patch_within used before fs p e = subst (IsPatchWithin used before) (rows_same rows plan p e) (made (clear rows plan p e))
  where
    f : HeadFields
    f = known fs

    rows : List Row
    rows = patch_rows used before (known fs)

    plan : PatchPlan
    plan = patch_plan (range_of (known fs).parts.range) (length_of None (known fs).parts.length)

    made : AreClear (patch_rows used before (known fs)) → IsPatchWithin used before (patch_plan (range_of (known fs).parts.range) (length_of None (known fs).parts.length))
    made h = record {
      apart = ltb-false (range_of (known fs).parts.range).start before h.1.1.1.1.1.1.1.1.1.0;
      forwards = ltb-false (range_of (known fs).parts.range).end (range_of (known fs).parts.range).start h.1.1.1.1.1.1.1.1.0;
      numbered = range_small (known fs).parts.range h.1.1.1.1.1.1.1.0;
      short = ltb-false 1048576 (used + length_of None (known fs).parts.length) h.1.1.1.1.0;
    }
