-- Rows on the identifier and the parents, read of the strings of the two fields.
use Rattle.std.proofs.Common.{◌≡◌, ℕ, ◌==◌, ◌||◌, Bool, true, false, cond, Result, Ok, Err, Option, Some, None, is_none, ok_or, unwrap_or, List, [], ◌∷◌, ◌++◌, length, map, refl, sym, ap, subst, ◌∙◌, nat_lt}
use Rattle.std.specs.List.{AllByRecursion}
use Rattle.braid_ids.specs.Frontiers.{rising_ids}
use Rattle.braid_shelf.specs.declared.item.Item.{Item}
use Rattle.braid_shelf.specs.declared.item.Item.TheVariants as items
use Rattle.braid_shelf.specs.declared.member.Member.{Member}
use Rattle.braid_shelf.specs.ByteClasses.{Are, is_printable}
use Rattle.braid_shelf.specs.Lists.{SpellsItem, string, token, integer, not_true, is_true, SpellsFollowed, SpellsList, empty, full, string_member}
use Rattle.braid_fields.specs.declared.reason.Reason.{Reason}
use Rattle.braid_fields.specs.declared.reason.Reason.TheVariants as reasons
use Rattle.braid_fields.specs.declared.parts.Parts.{Parts}
use Rattle.braid_fields.specs.declared.plan.PlanFault.{PlanFault}
use Rattle.braid_fields.specs.declared.plan.PlanFault.TheVariants as faults
use Rattle.braid_fields.specs.Values.{SpellsStrings, strings_in_value}
use Rattle.braid_fields.specs.Table.{first_row, first_of, one_value, members_of, has_bad_id, name_rows, Plans}
use Rattle.braid_fields.specs.Rows.{ArePrintable, id_rows, version_rows, parent_rows, list_rows, names_of}
use Rattle.braid_fields.proofs.ValueReading.{strings_law}

-- the strings of a list are printable

abbrev IsPrintableItem : Item → Type 0
IsPrintableItem (items.Str text) = Are is_printable text
IsPrintableItem (items.Token word) = Unit {0}
IsPrintableItem (items.Int number) = Unit {0}
IsPrintableItem (items.Bool flag) = Unit {0}

abbrev IsPrintableMember : Member → Type 0
IsPrintableMember member = IsPrintableItem member.item

item_printable : (item : Item) (text : List ℕ) → SpellsItem item text → IsPrintableItem item
item_printable item text (string characters h) = h
item_printable item text (token word h) = tt
item_printable item text (integer number digits h) = tt
item_printable item text not_true = tt
item_printable item text is_true = tt

followed_printable : (members : List Member) (text : List ℕ) → SpellsFollowed members text → AllByRecursion IsPrintableMember members
followed_printable [] text h = tt
followed_printable (member ∷ members) text (front, rest, s, more, e) =
    (item_printable member.item s.member_spelled.item_text s.member_spelled.item, followed_printable members rest more)

all_push : (members : List Member) (last : Member) → AllByRecursion IsPrintableMember members → IsPrintableMember last → AllByRecursion IsPrintableMember (members ++ last ∷ [])
all_push [] last h k = (k, tt)
all_push (member ∷ members) last h k = (h.0, all_push members last h.1 k)

list_printable : (members : List Member) (value : List ℕ) → SpellsList members value → AllByRecursion IsPrintableMember members
list_printable members value (empty v h) = tt
list_printable members value (full front last v text end behind s e) = all_push front last (followed_printable front behind.front behind.front_spelled) (item_printable last.item s.item_text s.item)

texts_printable : (strings : List (List ℕ)) → AllByRecursion IsPrintableMember (map string_member strings) → ArePrintable strings
texts_printable [] h = tt
texts_printable (text ∷ strings) h = (h.0, texts_printable strings h.1)

pub spelled_printable : (strings : List (List ℕ)) (value : List ℕ) → SpellsStrings strings value → ArePrintable strings
spelled_printable strings value s = texts_printable strings (list_printable (map string_member strings) value s)

read_strings : (o : Option (List (List ℕ))) (strings : List (List ℕ)) → ok_or o reasons.BadList ≡ Ok strings → o ≡ Some strings
read_strings None strings e = absurd cc
read_strings (Some found) strings e = let same : found ≡ strings = cc in ap (λ (x : List (List ℕ)). Some x) same

pub printable_of : (value : List ℕ) (strings : List (List ℕ)) → ok_or (strings_in_value value) reasons.BadList ≡ Ok strings → ArePrintable strings
printable_of value strings e = spelled_printable strings value ((strings_law value strings).0 (read_strings (strings_in_value value) strings e))

-- the rows, by what was read of the two fields

abbrev Names : Type 0
Names = List ℕ × List (List ℕ)

abbrev version_judged : Bool → Bool → Bool → List ℕ → Result (List ℕ) Reason
version_judged none many bad x = cond none (Err reasons.NoVersion) (cond many (Err reasons.ManyVersions) (cond bad (Err reasons.BadId) (Ok x)))

abbrev parents_judged : Bool → Bool → List (List ℕ) → Result (List (List ℕ)) Reason
parents_judged bad many y = cond bad (Err reasons.BadId) (cond many (Err reasons.TooManyParents) (Ok y))

abbrev both_judged : Bool → Bool → Bool → Bool → Bool → Names → Result Names Reason
both_judged none many bad worse more z =
    cond none (Err reasons.NoVersion) (cond many (Err reasons.ManyVersions) (cond (bad || worse) (Err reasons.BadId) (cond more (Err reasons.TooManyParents) (Ok z))))

version_stops : (none many bad worse more : Bool) (x : List ℕ) (z : Names) (r : Reason) → version_judged none many bad x ≡ Err r → both_judged none many bad worse more z ≡ Err r
version_stops true many bad worse more x z r e = let same : reasons.NoVersion ≡ r = cc in ap (λ (y : Reason). Err y) same
version_stops false true bad worse more x z r e = let same : reasons.ManyVersions ≡ r = cc in ap (λ (y : Reason). Err y) same
version_stops false false true worse more x z r e = let same : reasons.BadId ≡ r = cc in ap (λ (y : Reason). Err y) same
version_stops false false false worse more x z r e = absurd cc

parents_stop : (none many bad worse more : Bool) (x id : List ℕ) (y : List (List ℕ)) (z : Names) (r : Reason) → version_judged none many bad x ≡ Ok id → parents_judged worse more y ≡ Err r → both_judged none many bad worse more z ≡ Err r
parents_stop true many bad worse more x id y z r e f = absurd cc
parents_stop false true bad worse more x id y z r e f = absurd cc
parents_stop false false true worse more x id y z r e f = absurd cc
parents_stop false false false true more x id y z r e f = let same : reasons.BadId ≡ r = cc in ap (λ (y : Reason). Err y) same
parents_stop false false false false true x id y z r e f = let same : reasons.TooManyParents ≡ r = cc in ap (λ (y : Reason). Err y) same
parents_stop false false false false false x id y z r e f = absurd cc

both_pass : (none many bad worse more : Bool) (x id : List ℕ) (y parents : List (List ℕ)) → version_judged none many bad x ≡ Ok id → parents_judged worse more y ≡ Ok parents → both_judged none many bad worse more (x, y) ≡ Ok (id, parents)
both_pass true many bad worse more x id y parents e f = absurd cc
both_pass false true bad worse more x id y parents e f = absurd cc
both_pass false false true worse more x id y parents e f = absurd cc
both_pass false false false true more x id y parents e f = absurd cc
both_pass false false false false true x id y parents e f = absurd cc
both_pass false false false false false x id y parents e f =
    let one : x ≡ id = cc in
    let two : y ≡ parents = cc in
    λ i. Ok (one i, two i)

abbrev names_judged : Option (List (List ℕ)) → Option (List (List ℕ)) → Result Names Reason
names_judged v w =
    cond (is_none v || is_none w) (Err reasons.BadList) (both_judged (length (unwrap_or v []) == 0) (nat_lt 1 (length (unwrap_or v []))) (has_bad_id (unwrap_or v [])) (has_bad_id (unwrap_or w [])) (nat_lt 32 (length (rising_ids (unwrap_or w []))))
    (first_of (unwrap_or v []), rising_ids (unwrap_or w [])))

pub names_so : (p : Parts) → first_row (name_rows p) (names_of p) ≡ names_judged (strings_in_value (one_value p.version)) (strings_in_value (one_value p.parents))
unfolding members_of
names_so p = refl

pub names_read : (p : Parts) (v w : List (List ℕ)) → ok_or (strings_in_value (one_value p.version)) reasons.BadList ≡ Ok v → ok_or (strings_in_value (one_value p.parents)) reasons.BadList ≡ Ok w
    → first_row (name_rows p) (names_of p) ≡ names_judged (Some v) (Some w)
names_read p v w e f = names_so p ∙ (λ i. names_judged (read_strings (strings_in_value (one_value p.version)) v e i) (read_strings (strings_in_value (one_value p.parents)) w f i))

pub names_id_fault : (p : Parts) (v w : List (List ℕ)) (fault : PlanFault) → ok_or (strings_in_value (one_value p.version)) reasons.BadList ≡ Ok v → ok_or (strings_in_value (one_value p.parents)) reasons.BadList ≡ Ok w
    → Plans {A = List ℕ} (Err fault) (first_row (version_rows v) (first_of v)) → Plans {A = Names} (Err fault) (first_row (name_rows p) (names_of p))
names_id_fault p v w faults.Memory e f h = tt
names_id_fault p v w (faults.Reason r) e f h =
    names_read p v w e f ∙ version_stops (length v == 0) (nat_lt 1 (length v)) (has_bad_id v) (has_bad_id w) (nat_lt 32 (length (rising_ids w))) (first_of v) (first_of v, rising_ids w) r h

pub names_parents_fault : (p : Parts) (v w : List (List ℕ)) (id : List ℕ) (fault : PlanFault) → ok_or (strings_in_value (one_value p.version)) reasons.BadList ≡ Ok v → ok_or (strings_in_value (one_value p.parents)) reasons.BadList ≡ Ok w
    → first_row (version_rows v) (first_of v) ≡ Ok id → Plans {A = List (List ℕ)} (Err fault) (first_row (parent_rows w) (rising_ids w)) → Plans {A = Names} (Err fault) (first_row (name_rows p) (names_of p))
names_parents_fault p v w id faults.Memory e f g h = tt
names_parents_fault p v w id (faults.Reason r) e f g h =
    names_read p v w e f ∙ parents_stop (length v == 0) (nat_lt 1 (length v)) (has_bad_id v) (has_bad_id w) (nat_lt 32 (length (rising_ids w))) (first_of v) id (rising_ids w) (first_of v, rising_ids w) r g h

pub names_done : (p : Parts) (v w : List (List ℕ)) (id : List ℕ) (parents : List (List ℕ)) → ok_or (strings_in_value (one_value p.version)) reasons.BadList ≡ Ok v → ok_or (strings_in_value (one_value p.parents)) reasons.BadList ≡ Ok w
    → first_row (version_rows v) (first_of v) ≡ Ok id → first_row (parent_rows w) (rising_ids w) ≡ Ok parents → first_row (name_rows p) (names_of p) ≡ Ok (id, parents)
names_done p v w id parents e f g h =
    names_read p v w e f ∙ both_pass (length v == 0) (nat_lt 1 (length v)) (has_bad_id v) (has_bad_id w) (nat_lt 32 (length (rising_ids w))) (first_of v) id (rising_ids w) parents g h

-- the lines of a field that lists identifiers

abbrev list_judged : Option (List (List ℕ)) → Result (List (List ℕ)) Reason
list_judged o = cond (is_none o) (Err reasons.BadList) (cond (has_bad_id (unwrap_or o [])) (Err reasons.BadId) (Ok (rising_ids (unwrap_or o []))))

list_so : (values : List (List ℕ)) → first_row (list_rows values) (rising_ids (members_of values)) ≡ list_judged (strings_in_value (one_value values))
unfolding members_of
list_so values = refl

list_is_none : (o : Option (List (List ℕ))) (fault : PlanFault) → Plans {A = List (List ℕ)} (Err fault) (ok_or o reasons.BadList) → Plans {A = List (List ℕ)} (Err fault) (list_judged o)
list_is_none o faults.Memory h = tt
list_is_none None (faults.Reason r) h = let same : reasons.BadList ≡ r = cc in ap (λ (x : Reason). Err x) same
list_is_none (Some strings) (faults.Reason r) h = absurd cc

-- lines that are no list
pub no_list : (values : List (List ℕ)) (fault : PlanFault) → Plans {A = List (List ℕ)} (Err fault) (ok_or (strings_in_value (one_value values)) reasons.BadList)
    → Plans {A = List (List ℕ)} (Err fault) (first_row (list_rows values) (rising_ids (members_of values)))
no_list values fault h =
    subst (λ (x : Result (List (List ℕ)) Reason). Plans {A = List (List ℕ)} (Err fault) x) (sym (list_so values)) (list_is_none (strings_in_value (one_value values)) fault h)

-- lines that are one
pub list_is : (values strings : List (List ℕ)) (r : Result (List (List ℕ)) PlanFault) → ok_or (strings_in_value (one_value values)) reasons.BadList ≡ Ok strings → Plans r (first_row (id_rows strings) (rising_ids strings))
    → Plans r (first_row (list_rows values) (rising_ids (members_of values)))
list_is values strings r e h =
    subst (λ (x : Result (List (List ℕ)) Reason). Plans r x) (sym (list_so values ∙ (λ i. list_judged (read_strings (strings_in_value (one_value values)) strings e i)))) h
