-- The heads of a canonical spelling plan its update.
use Rattle.std.proofs.Common.{◌≡◌, ℕ, ◌+◌, ◌<◌, ◌≤◌, ◌^◌, ◌==◌, ◌||◌, Bool, true, false, cond, Result, Ok, Err, Option, Some, is_none, unwrap_or, List, [], ◌∷◌, length, decimal, encode_utf8_all, pos, refl, sym, ap, ◌∙◌, subst, arith, append-nil, nat_lt}
use Rattle.std.specs.List.{AllByRecursion}
use Rattle.std.specs.Str.{all_ascii_digits}
use Rattle.std.specs.Str.Parse.{digits_value}
use Rattle.std.specs.Char.{is_ascii_digit}
use Rattle.std.proofs.lemmas.Bool.{and_parts, or_from, le-ltb, ne_eqb}
use Rattle.std.proofs.lemmas.Fmt.{length-decimal-le, decimal_is_IsNumeral}
use Rattle.braid_ids.specs.Identifiers.{IsIdentifier, spelled_id, spelled_ids}
use Rattle.braid_ids.specs.Frontiers.{IsRising, rising_ids}
use Rattle.braid_ids.proofs.Inserted.{rising_itself}
use Rattle.braid_shelf.specs.declared.member.Member.{Member}
use Rattle.braid_shelf.specs.ByteClasses.{Are, is_digit}
use Rattle.braid_shelf.specs.Lists.{AreDigits, natural, integer, SpellsList, full, count_member}
use Rattle.braid_shelf.proofs.Listed.{ids_listed}
use Rattle.braid_change.specs.Changes.{IsShaped}
use Rattle.braid_change.specs.Updates.{UpdateView, IsBuilt}
use Rattle.braid_change.specs.Spellings.{range_text}
use Rattle.braid_change.specs.declared.patch.Patch.{Patch}
use Rattle.braid_change.specs.declared.change.Change.{Change}
use Rattle.braid_change.specs.declared.change.Change.TheVariants.{Body, Patches}
use Rattle.braid_change.proofs.OneRange.{spelled_range}
use Rattle.braid_fields.specs.declared.reason.Reason.{Reason}
use Rattle.braid_fields.specs.declared.reason.Reason.TheVariants as reasons
use Rattle.braid_fields.specs.declared.range.TextRange.{TextRange}
use Rattle.braid_fields.specs.declared.plan.Plan.{Plan}
use Rattle.braid_fields.specs.declared.plan.Asks.TheVariants as asks
use Rattle.braid_fields.specs.declared.plan.PatchPlan.{PatchPlan}
use Rattle.braid_fields.specs.Values.{strings_in_value, count_in_value, length_in_value, has_other_unit, range_in_value}
use Rattle.braid_fields.specs.Known.{known}
use Rattle.braid_fields.specs.Table.{first_of, is_encoded, is_other_merge_type, members_of, is_bad_id, has_bad_id, no_range, is_backwards, patch_plan, judge_head, judge_patch}
use Rattle.braid_fields.specs.Canonical.{head_fields, patch_fields, update_plan, plan_of_patch}
use Rattle.braid_fields.proofs.ValueReading.{strings_law, count_law, length_law}
use Rattle.braid_fields.proofs.RangeReading.{range_law, range_unit}
use Rattle.braid_fields.proofs.CanonicalLines.{decimal_digits}

-- numbers

digits_are : (digits : List ℕ) → all_ascii_digits digits ≡ true → Are is_digit digits
digits_are [] h = tt
digits_are (d ∷ digits) h = let p = and_parts (is_ascii_digit d) (all_ascii_digits digits) h in (p.0, digits_are digits p.1)

number_digits : (n : ℕ) → n ≤ 1048576 → AreDigits (decimal n)
number_digits n l = record {
  some = let s = (decimal_is_IsNumeral n (omega arith)).0.0 in omega arith;
  few = length-decimal-le 15 n (omega arith) (omega arith) (omega arith);
  are_digits = digits_are (decimal n) (decimal_digits n (omega arith));
}

number_value : (n : ℕ) → n ≤ 1048576 → digits_value 10 (decimal n) ≡ n
number_value n l = (decimal_is_IsNumeral n (omega arith)).1

length_read : (n : ℕ) → n ≤ 1048576 → length_in_value (decimal n) ≡ Some n
length_read n l = (length_law (decimal n) n).1 (number_digits n l, sym (number_value n l))

count_read : (n : ℕ) → n ≤ 1048576 → count_in_value (decimal n) ≡ Some n
count_read n l = (count_law (decimal n) n).1 (subst (λ (k : ℕ). SpellsList (count_member k ∷ []) (decimal n)) (number_value n l) listed)
  where
    member : Member
    member = count_member (digits_value 10 (decimal n))

    listed : SpellsList (count_member (digits_value 10 (decimal n)) ∷ []) (decimal n)
    listed =
        full [] (count_member (digits_value 10 (decimal n))) (decimal n) (decimal n) []
        (record { spaces = []; front = []; are_spaces = tt; front_spelled = refl; cut = sym (append-nil (decimal n)) })
        (record {
          item_text = decimal n;
          params_text = [];
          params = [];
          item = integer (pos (digits_value 10 (decimal n))) (decimal n) (natural (decimal n) (number_digits n l));
          params_spelled = refl;
          params_kept = refl;
          spelled = sym (append-nil (decimal n));
        })
        tt

-- identifiers

ids_read : (ids : List (List ℕ)) → AllByRecursion IsIdentifier ids → strings_in_value (spelled_ids ids) ≡ Some ids
ids_read ids h = (strings_law (spelled_ids ids) ids).1 (ids_listed ids h)

id_read : (id : List ℕ) → IsIdentifier id → strings_in_value (spelled_id id) ≡ Some (id ∷ [])
id_read id h = ap strings_in_value (sym (append-nil (spelled_id id))) ∙ ids_read (id ∷ []) (h, tt)

good_id : (id : List ℕ) → IsIdentifier id → is_bad_id id ≡ false
good_id id h = or_from _ _ (ne_eqb (length id) 0 (λ e. omega (arith, h.some, e))) (le-ltb 128 (length id) h.short)

good_ids : (ids : List (List ℕ)) → AllByRecursion IsIdentifier ids → has_bad_id ids ≡ false
unfolding has_bad_id
good_ids [] h = refl
good_ids (id ∷ ids) h = or_from _ _ (good_id id h.0) (good_ids ids h.1)

-- a head

-- what the rows say of a head with these strings, where its content has no fault
abbrev names_judged : Option (List (List ℕ)) → Option (List (List ℕ)) → (List ℕ → List (List ℕ) → Result Plan Reason) → Result Plan Reason
names_judged v w then =
    cond (is_none v || is_none w) (Err reasons.BadList) (cond (length (unwrap_or v []) == 0) (Err reasons.NoVersion) (cond (nat_lt 1 (length (unwrap_or v []))) (Err reasons.ManyVersions)
    (cond (has_bad_id (unwrap_or v []) || has_bad_id (unwrap_or w [])) (Err reasons.BadId) (cond (nat_lt 32 (length (rising_ids (unwrap_or w [])))) (Err reasons.TooManyParents)
    (then (first_of (unwrap_or v [])) (rising_ids (unwrap_or w [])))))))

names_pass : (id : List ℕ) (parents : List (List ℕ)) (then : List ℕ → List (List ℕ) → Result Plan Reason) → IsIdentifier id → AllByRecursion IsIdentifier parents → IsRising parents → length parents ≤ 32
    → names_judged (strings_in_value (spelled_id id)) (strings_in_value (spelled_ids parents)) then ≡ then id parents
names_pass id parents then h k r l =
    let same : rising_ids parents ≡ parents = rising_itself parents r in
    let bad : has_bad_id (id ∷ []) || has_bad_id parents ≡ false = or_from _ _ (good_ids (id ∷ []) (h, tt)) (good_ids parents k) in
    let few : nat_lt 32 (length parents) ≡ false = le-ltb 32 (length parents) l in
    (λ i. names_judged (id_read id h i) (ids_read parents k i) then)
    ∙ (λ i. cond (bad i) (Err reasons.BadId) (cond (nat_lt 32 (length (same i))) (Err reasons.TooManyParents) (then id (same i))))
    ∙ ap (λ (t : Bool). cond t (Err reasons.TooManyParents) (then id parents)) few

abbrev body_judged : Option ℕ → List ℕ → List (List ℕ) → Result Plan Reason
body_judged o id parents =
    cond (is_none o) (Err reasons.BadLength) (cond (nat_lt 1_048_576 (0 + unwrap_or o 0)) (Err reasons.TooLong) (Ok (record { id = id; parents = parents; asks = asks.Body (unwrap_or o 0) })))

body_so : (id : List ℕ) (parents : List (List ℕ)) (text : List ℕ)
    → judge_head (head_fields (record { id = id; parents = parents; change = Body text })) ≡ names_judged (strings_in_value (spelled_id id)) (strings_in_value (spelled_ids parents)) (body_judged (length_in_value (decimal (length (encode_utf8_all text)))))
unfolding judge_head known members_of is_encoded is_other_merge_type
body_so id parents text = refl

body_pass : (n : ℕ) (id : List ℕ) (parents : List (List ℕ)) → n ≤ 1048576 → body_judged (length_in_value (decimal n)) id parents ≡ Ok (record { id = id; parents = parents; asks = asks.Body n })
body_pass n id parents l =
    ap (λ (o : Option ℕ). body_judged o id parents) (length_read n l)
    ∙ ap (λ (t : Bool). cond t (Err reasons.TooLong) (Ok (record { id = id; parents = parents; asks = asks.Body n }))) (le-ltb 1048576 (0 + n) (omega arith))

abbrev patches_judged : Option ℕ → List ℕ → List (List ℕ) → Result Plan Reason
patches_judged o id parents =
    cond (is_none o) (Err reasons.BadCount) (cond (nat_lt 1_000 (unwrap_or o 0)) (Err reasons.TooManyPatches) (Ok (record { id = id; parents = parents; asks = asks.Patches (unwrap_or o 0) })))

patches_so : (id : List ℕ) (parents : List (List ℕ)) (patches : List Patch)
    → judge_head (head_fields (record { id = id; parents = parents; change = Patches patches })) ≡ names_judged (strings_in_value (spelled_id id)) (strings_in_value (spelled_ids parents)) (patches_judged (count_in_value (decimal (length patches))))
unfolding judge_head known members_of is_encoded is_other_merge_type
patches_so id parents patches = refl

patches_pass : (n : ℕ) (id : List ℕ) (parents : List (List ℕ)) → n ≤ 1000 → patches_judged (count_in_value (decimal n)) id parents ≡ Ok (record { id = id; parents = parents; asks = asks.Patches n })
patches_pass n id parents l =
    ap (λ (o : Option ℕ). patches_judged o id parents) (count_read n (omega arith))
    ∙ ap (λ (t : Bool). cond t (Err reasons.TooManyPatches) (Ok (record { id = id; parents = parents; asks = asks.Patches n }))) (le-ltb 1000 n l)

-- the head of a canonical spelling has the plan of its update
pub canonical_head : (u : UpdateView) → IsIdentifier u.id → AllByRecursion IsIdentifier u.parents → IsRising u.parents → IsBuilt u.parents u.change → judge_head (head_fields u) ≡ Ok (update_plan u)
canonical_head u h k r b = go u.change b.shaped
  where
    go : (change : Change) → IsShaped change → judge_head (head_fields (record { id = u.id; parents = u.parents; change = change })) ≡ Ok (update_plan (record { id = u.id; parents = u.parents; change = change }))
    go (Body text) s =
        body_so u.id u.parents text ∙ names_pass u.id u.parents (body_judged (length_in_value (decimal (length (encode_utf8_all text))))) h k r b.few_parents
        ∙ body_pass (length (encode_utf8_all text)) u.id u.parents s.short
    go (Patches patches) s =
        patches_so u.id u.parents patches ∙ names_pass u.id u.parents (patches_judged (count_in_value (decimal (length patches)))) h k r b.few_parents
        ∙ patches_pass (length patches) u.id u.parents s.few

-- a patch

abbrev patch_judged : ℕ → ℕ → Option ℕ → Bool → Option TextRange → Result PatchPlan Reason
patch_judged used before o unit range =
    cond (is_none o) (Err reasons.BadLength) (cond (nat_lt 1_048_576 (used + unwrap_or o 0)) (Err reasons.TooLong) (cond unit (Err reasons.OtherUnit) (cond (is_none range) (Err reasons.BadRange)
    (cond (is_backwards (unwrap_or range no_range)) (Err reasons.Backwards) (cond (nat_lt (unwrap_or range no_range).start before) (Err reasons.Overlap) (Ok (patch_plan (unwrap_or range no_range) (unwrap_or o 0))))))))

patch_so : (used before : ℕ) (p : Patch)
    → judge_patch used before (patch_fields p) ≡ patch_judged used before (length_in_value (decimal (length (encode_utf8_all p.text)))) (has_other_unit (range_text p.start p.end)) (range_in_value (range_text p.start p.end))
unfolding judge_patch known is_encoded
patch_so used before p = refl

-- the head of a patch in a canonical spelling has its plan, behind contents of `used` bytes and a patch that ends at `before`
pub canonical_patch : (used before : ℕ) (p : Patch) → before ≤ p.start → p.start ≤ p.end → p.end < 2 ^ 32 → used + length (encode_utf8_all p.text) ≤ 1048576 → judge_patch used before (patch_fields p) ≡ Ok (plan_of_patch p)
canonical_patch used before p a f e l =
    let n : ℕ = length (encode_utf8_all p.text) in
    let is = spelled_range p.start p.end (omega arith) e in
    let range : TextRange = record { start = p.start; end = p.end } in
    let read : range_in_value (range_text p.start p.end) ≡ Some range = (range_law (range_text p.start p.end) range).1 is in
    let unit : has_other_unit (range_text p.start p.end) ≡ false = range_unit (range_text p.start p.end) p.start p.end is in
    patch_so used before p
    ∙ (λ i. patch_judged used before (length_read n (omega arith) i) (unit i) (read i))
    ∙ (λ i. cond (le-ltb 1048576 (used + n) l i) (Err reasons.TooLong) (cond (le-ltb p.end p.start f i) (Err reasons.Backwards) (cond (le-ltb p.start before a i) (Err reasons.Overlap) (Ok (patch_plan range n)))))
