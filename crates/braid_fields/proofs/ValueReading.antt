-- What is computed of the values of lists, counts and lengths is what stands there.
use Rattle.std.proofs.Common.{◌≡◌, ℕ, ◌&&◌, Bool, true, false, cond, ◌↔◌, Option, Some, None, List, [], ◌∷◌, length, map, pos, negsuc, refl, sym, ap, ◌∙◌, subst, nat_le}
use Rattle.std.specs.List.{list_all}
use Rattle.std.specs.Str.Parse.{digits_value}
use Rattle.std.proofs.lemmas.Bool.{and_parts, and_from, leb-true, le-leb}
use Rattle.braid_shelf.specs.declared.item.Item.{Item}
use Rattle.braid_shelf.specs.declared.item.Item.TheVariants as items
use Rattle.braid_shelf.specs.declared.param.Param.{Param}
use Rattle.braid_shelf.specs.declared.member.Member.{Member}
use Rattle.braid_shelf.specs.ByteClasses.{Are, is_digit}
use Rattle.braid_shelf.specs.Lists.{AreDigits, is_string, has_no_params, AreStrings, strings_in, SpellsList, string_member, count_member}
use Rattle.braid_shelf.specs.Reading.{Outcome, Read, Bad, Found, list_at}
use Rattle.braid_shelf.proofs.Wholes.{IsListRead, list_read}
use Rattle.braid_shelf.proofs.Spelled.{list_only}
use Rattle.braid_shelf.proofs.Listed.{strings_listed}
use Rattle.braid_fields.specs.Values.{SpellsStrings, strings_found, strings_in_value, natural_of, count_in, count_found, count_in_value, are_length_digits, length_in_value}
use Rattle.braid_fields.proofs.Padding.{all_are, are_all}

are_strings : (members : List Member) → list_all is_string members ≡ true → AreStrings members
are_strings [] e = tt
are_strings (member ∷ members) e = let p = and_parts (is_string member) (list_all is_string members) e in (p.0, are_strings members p.1)

texts_pass : (strings : List (List ℕ)) → list_all is_string (map string_member strings) ≡ true
texts_pass [] = refl
texts_pass (text ∷ strings) = texts_pass strings

texts_in : (strings : List (List ℕ)) → strings_in (map string_member strings) ≡ strings
texts_in [] = refl
texts_in (text ∷ strings) = ap (λ (x : List (List ℕ)). text ∷ x) (texts_in strings)

value_spelled : (value : List ℕ) (strings : List (List ℕ)) → strings_in_value value ≡ Some strings → SpellsStrings strings value
unfolding strings_in_value
value_spelled value strings e = go (list_at value) (list_read value) e
  where
    inner : (found : Found) (t : Bool) → list_all is_string found.members ≡ t → SpellsList found.members value → cond t (Some (strings_in found.members)) None ≡ Some strings → SpellsStrings strings value
    inner found true h s e = let same : strings_in found.members ≡ strings = cc in strings_listed found.members strings value s (are_strings found.members h) (sym same)
    inner found false h s e = absurd cc

    go : (outcome : Outcome Found) → IsListRead value outcome → strings_found outcome ≡ Some strings → SpellsStrings strings value
    go (Read found rest) h e = inner found (list_all is_string found.members) refl h.1 e
    go (Bad left kind) h e = absurd cc

spelled_value : (value : List ℕ) (strings : List (List ℕ)) → SpellsStrings strings value → strings_in_value value ≡ Some strings
unfolding strings_in_value
spelled_value value strings s =
    let a = list_only (map string_member strings) value s in
    let test : list_all is_string a.0.members ≡ true = ap (list_all is_string) a.2 ∙ texts_pass strings in
    let texts : strings_in a.0.members ≡ strings = ap strings_in a.2 ∙ texts_in strings in
    let some : Option (List (List ℕ)) = Some (strings_in a.0.members) in
    ap strings_found a.1 ∙ ap (λ (t : Bool). cond t some None) test ∙ ap (λ (x : List (List ℕ)). Some x) texts

-- the strings of a value are those that it is a list of
pub strings_law : (value : List ℕ) (strings : List (List ℕ)) → strings_in_value value ≡ Some strings ↔ SpellsStrings strings value
strings_law value strings = (value_spelled value strings, spelled_value value strings)

natural_is : (item : Item) (params : List Param) (n : ℕ) → cond (has_no_params params) (natural_of item) None ≡ Some n → record { item = item; params = params } ≡ count_member n
natural_is (items.Int (pos k)) [] n e = let same : k ≡ n = cc in ap count_member same
natural_is (items.Int (negsuc k)) [] n e = absurd cc
natural_is (items.Str text) [] n e = absurd cc
natural_is (items.Token word) [] n e = absurd cc
natural_is (items.Bool flag) [] n e = absurd cc
natural_is item (param ∷ params) n e = absurd cc

counted : (members : List Member) (n : ℕ) → count_in members ≡ Some n → members ≡ count_member n ∷ []
counted [] n e = absurd cc
counted (member ∷ []) n e = ap (λ (x : Member). x ∷ []) (natural_is member.item member.params n e)
counted (member ∷ other ∷ members) n e = absurd cc

value_counted : (value : List ℕ) (n : ℕ) → count_in_value value ≡ Some n → SpellsList (count_member n ∷ []) value
unfolding count_in_value
value_counted value n e = go (list_at value) (list_read value) e
  where
    go : (outcome : Outcome Found) → IsListRead value outcome → count_found outcome ≡ Some n → SpellsList (count_member n ∷ []) value
    go (Read found rest) h e = subst (λ (x : List Member). SpellsList x value) (counted found.members n e) h.1
    go (Bad left kind) h e = absurd cc

counted_value : (value : List ℕ) (n : ℕ) → SpellsList (count_member n ∷ []) value → count_in_value value ≡ Some n
unfolding count_in_value
counted_value value n s =
    let a = list_only (count_member n ∷ []) value s in
    ap count_found a.1 ∙ ap count_in a.2

-- the number of a value is the one that it is a list of
pub count_law : (value : List ℕ) (n : ℕ) → count_in_value value ≡ Some n ↔ SpellsList (count_member n ∷ []) value
count_law value n = (value_counted value n, counted_value value n)

digits_are : (value : List ℕ) → are_length_digits value ≡ true → AreDigits value
digits_are value e =
    let p = and_parts (nat_le 1 (length value) && nat_le (length value) 15) (list_all is_digit value) e in
    let q = and_parts (nat_le 1 (length value)) (nat_le (length value) 15) p.0 in
    record { some = leb-true 1 (length value) q.0; few = leb-true (length value) 15 q.1; are_digits = all_are is_digit value p.1 }

are_digits : (value : List ℕ) → AreDigits value → are_length_digits value ≡ true
are_digits value d = and_from _ _ (and_from _ _ (le-leb 1 (length value) d.some) (le-leb (length value) 15 d.few)) (are_all is_digit value d.are_digits)

value_measured : (value : List ℕ) (n : ℕ) → length_in_value value ≡ Some n → AreDigits value × (n ≡ digits_value 10 value)
unfolding length_in_value
value_measured value n e = go (are_length_digits value) refl e
  where
    go : (t : Bool) → are_length_digits value ≡ t → cond t (Some (digits_value 10 value)) None ≡ Some n → AreDigits value × (n ≡ digits_value 10 value)
    go true h e = (digits_are value h, cc)
    go false h e = absurd cc

measured_value : (value : List ℕ) (n : ℕ) → AreDigits value → n ≡ digits_value 10 value → length_in_value value ≡ Some n
unfolding length_in_value
measured_value value n d e =
    let some : Option ℕ = Some (digits_value 10 value) in
    ap (λ (t : Bool). cond t some None) (are_digits value d) ∙ ap (λ (x : ℕ). Some x) (sym e)

-- the number of a value is the one that its 1 to 15 digits write
pub length_law : (value : List ℕ) (n : ℕ) → length_in_value value ≡ Some n ↔ (AreDigits value × (n ≡ digits_value 10 value))
length_law value n = (value_measured value n, λ h. measured_value value n h.0 h.1)

pub digits_tested : (value : List ℕ) (test : Bool) → test ≡ are_length_digits value → test ≡ true → Are is_digit value
digits_tested value test e t = (digits_are value (sym e ∙ t)).are_digits
