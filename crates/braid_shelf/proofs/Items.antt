-- Items: what is read is what stands there, and what stands there is read.
use Rattle.std.proofs.Common.{◌≡◌, ℕ, suc, ◌<◌, Bool, true, false, cond, ◌||◌, ltb, List, [], ◌∷◌, ◌++◌, length, refl, sym, ap, ◌∙◌, subst, append_assoc, eqb, arith, inl, inr, ◌⊎◌, ℤ, pos, neg_ℤ, flat_map}
use Rattle.std.specs.List.{prefix_len}
use Rattle.std.specs.Str.Parse.{digits_value}
use Rattle.std.proofs.lemmas.Bool.{ne_eqb, eqb-true, eqb-false, ltb-true, ltb-false, lt-ltb, le-ltb, or_parts, or_cases, or_right, or_from}
use Rattle.braid_ids.specs.Identifiers.{escaped, spelled_id}
use Rattle.braid_shelf.specs.declared.fault.ShelfKind.{ShelfKind}
use Rattle.braid_shelf.specs.declared.fault.ShelfKind.TheVariants.{BadItem, LongInteger, NotCarried}
use Rattle.braid_shelf.specs.declared.item.Item.{Item}
use Rattle.braid_shelf.specs.declared.item.Item.TheVariants as items
use Rattle.braid_shelf.specs.ByteClasses.{Are, IsWord, begins, is_digit, begins_token, is_in_token, is_printable}
use Rattle.braid_shelf.specs.Lists.{AreDigits, SpellsInteger, natural, signed, SpellsItem, string, token, integer, not_true, is_true}
use Rattle.braid_shelf.specs.Faults.{IsSign, begins_item, IsItemFault, unclosed, no_character, no_escape, no_digit, long, decimal, no_boolean, not_carried, no_item, ended, EndsItem, TakesItem}
use Rattle.braid_shelf.specs.Reading.{Outcome, Read, Bad, then_read, front_of, after, string_from, digits_at, integer_at, boolean_from, item_at}
use Rattle.braid_shelf.proofs.Passing.{front_passes, after_stops, front_after, front_is, after_is, count_is, count_least, none_begins, front_length}
use Rattle.braid_shelf.proofs.Apart.{token_apart, digit_apart, token_goes_on, word_goes_on, front_word, begins_or, begins_both, begins_eq}
use Rattle.braid_shelf.proofs.Characters.{string_passes, quote_ends, end_is_bad, byte_is_bad, escape_is_bad, IsStringRead, string_read}

-- what reading an item gives is what stands there
abbrev pub IsItemRead : List ℕ → Outcome Item → Type 0
IsItemRead bytes (Read item rest) = TakesItem item bytes rest
IsItemRead bytes (Bad left kind) = IsItemFault bytes left kind

-- Integers

digits_read : (whole sign_text bytes : List ℕ) (sign : ℕ → ℤ) → whole ≡ sign_text ++ bytes → IsSign sign_text
    → ((digits : List ℕ) → AreDigits digits → SpellsInteger (sign (digits_value 10 digits)) (sign_text ++ digits)) → (begins is_digit bytes ≡ false → IsItemFault whole (length whole) BadItem)
    → IsItemRead whole (digits_at (length whole) sign bytes)
unfolding digits_at
digits_read whole sign_text bytes sign e s spells none =
    go (eqb (prefix_len is_digit bytes) 0) (ltb 15 (prefix_len is_digit bytes)) (begins (λ b. eqb b 46) (after is_digit bytes)) refl refl refl
  where
    cut : whole ≡ sign_text ++ (front_of is_digit bytes ++ after is_digit bytes)
    cut = e ∙ ap (λ x. sign_text ++ x) (sym (front_after is_digit bytes))

    digits : eqb (prefix_len is_digit bytes) 0 ≡ false → ltb 15 (prefix_len is_digit bytes) ≡ false → AreDigits (front_of is_digit bytes)
    digits x y =
        let n = eqb-false (prefix_len is_digit bytes) 0 x in
        let m = ltb-false 15 (prefix_len is_digit bytes) y in
        let l = front_length is_digit bytes in
        record { some = omega arith; few = omega arith; are_digits = front_passes is_digit bytes }

    go : (p q t : Bool) → eqb (prefix_len is_digit bytes) 0 ≡ p → ltb 15 (prefix_len is_digit bytes) ≡ q → begins (λ b. eqb b 46) (after is_digit bytes) ≡ t
        → IsItemRead whole (cond p (Bad (length whole) BadItem) (cond q (Bad (length whole) LongInteger) (cond t (Bad (length whole) NotCarried) (Read (items.Int (sign (digits_value 10 (front_of is_digit bytes)))) (after is_digit bytes)))))
    go true q t x y z = none (none_begins is_digit bytes (eqb-true (prefix_len is_digit bytes) 0 x))
    go false true t x y z =
        let m = ltb-true 15 (prefix_len is_digit bytes) y in
        let l = front_length is_digit bytes in
        long sign_text (front_of is_digit bytes) (after is_digit bytes) whole s (front_passes is_digit bytes) (omega arith) cut
    go false false true x y z =
        let p = begins_eq 46 (after is_digit bytes) z in
        decimal sign_text (front_of is_digit bytes) p.0 whole s (digits x y) (cut ∙ ap (λ r. sign_text ++ (front_of is_digit bytes ++ r)) p.1)
    go false false false x y z = record {
      text = sign_text ++ front_of is_digit bytes;
      spelled = integer (sign (digits_value 10 (front_of is_digit bytes))) (sign_text ++ front_of is_digit bytes) (spells (front_of is_digit bytes) (digits x y));
      ends = begins_or is_digit (λ b. eqb b 46) (after is_digit bytes) (after_stops is_digit bytes) z;
      cut = cut ∙ sym (append_assoc sign_text (front_of is_digit bytes) (after is_digit bytes));
    }

integer_read : (b : ℕ) (bytes : List ℕ) → (eqb b 45 || is_digit b) ≡ true → IsItemRead (b ∷ bytes) (integer_at (b ∷ bytes))
unfolding integer_at
integer_read b bytes h = go (eqb b 45) refl
  where
    go : (p : Bool) → eqb b 45 ≡ p → IsItemRead (b ∷ bytes) (cond p (digits_at (suc (length bytes)) (λ n. neg_ℤ (pos n)) bytes) (digits_at (suc (length bytes)) pos (b ∷ bytes)))
    go true e =
        subst (λ m. IsItemRead (m ∷ bytes) (digits_at (suc (length bytes)) (λ n. neg_ℤ (pos n)) bytes)) (sym (eqb-true b 45 e))
        (digits_read (45 ∷ bytes) (45 ∷ []) bytes (λ n. neg_ℤ (pos n)) refl (inr refl) (λ digits d. signed digits d) (λ n. no_digit bytes n))
    go false e =
        let d : is_digit b ≡ true = elim (or_cases (eqb b 45) (is_digit b) h) [ inl f ↦ absurd (both f) | inr f ↦ f ] in
        digits_read (b ∷ bytes) [] (b ∷ bytes) pos refl (inl refl) (λ digits d. natural digits d) (λ n. absurd (not_so d n))
      where
        both : eqb b 45 ≡ true → ⊥
        both f = cc

        not_so : is_digit b ≡ true → is_digit b ≡ false → ⊥
        not_so x y = cc

digits_only : (first : ℕ) (sign : ℕ → ℤ) (digits rest : List ℕ) → AreDigits digits → begins (λ b. is_digit b || eqb b 46) rest ≡ false
    → digits_at first sign (digits ++ rest) ≡ Read (items.Int (sign (digits_value 10 digits))) rest
unfolding digits_at
digits_only first sign digits rest d e =
    let p = begins_both is_digit (λ b. eqb b 46) rest e in
    let some : eqb (length digits) 0 ≡ false = ne_eqb (length digits) 0 (λ z. let s = d.some in omega (arith, z)) in
    let few : ltb 15 (length digits) ≡ false = le-ltb 15 (length digits) d.few in
    rw (front_is is_digit digits rest d.are_digits p.0, after_is is_digit digits rest d.are_digits p.0, count_is is_digit digits rest d.are_digits p.0, some, few, p.1) refl

digits_long : (first : ℕ) (sign : ℕ → ℤ) (digits rest : List ℕ) → Are is_digit digits → 15 < length digits → digits_at first sign (digits ++ rest) ≡ Bad first LongInteger
unfolding digits_at
digits_long first sign digits rest d l =
    let k = count_least is_digit digits rest d in
    let some : eqb (prefix_len is_digit (digits ++ rest)) 0 ≡ false = ne_eqb (prefix_len is_digit (digits ++ rest)) 0 (λ z. omega (arith, z)) in
    let many : ltb 15 (prefix_len is_digit (digits ++ rest)) ≡ true = lt-ltb 15 (prefix_len is_digit (digits ++ rest)) (omega arith) in
    rw (some, many) refl

digits_point : (first : ℕ) (sign : ℕ → ℤ) (digits rest : List ℕ) → AreDigits digits → digits_at first sign (digits ++ 46 ∷ rest) ≡ Bad first NotCarried
unfolding digits_at
digits_point first sign digits rest d =
    let some : eqb (length digits) 0 ≡ false = ne_eqb (length digits) 0 (λ z. let s = d.some in omega (arith, z)) in
    let few : ltb 15 (length digits) ≡ false = le-ltb 15 (length digits) d.few in
    rw (after_is is_digit digits (46 ∷ rest) d.are_digits refl, count_is is_digit digits (46 ∷ rest) d.are_digits refl, some, few) refl

digits_none : (first : ℕ) (sign : ℕ → ℤ) (bytes : List ℕ) → begins is_digit bytes ≡ false → digits_at first sign bytes ≡ Bad first BadItem
unfolding digits_at
digits_none first sign bytes e = let none : prefix_len is_digit bytes ≡ 0 = count_is is_digit [] bytes tt e in rw none refl

-- the rest of items

boolean_read : (bytes : List ℕ) → IsItemRead (63 ∷ bytes) (boolean_from (suc (length bytes)) bytes)
unfolding boolean_from
boolean_read [] = no_boolean [] refl
boolean_read (b ∷ bytes) = go (eqb b 48) (eqb b 49) refl refl
  where
    go : (p q : Bool) → eqb b 48 ≡ p → eqb b 49 ≡ q → IsItemRead (63 ∷ b ∷ bytes) (cond p (Read (items.Bool false) bytes) (cond q (Read (items.Bool true) bytes) (Bad (suc (suc (length bytes))) BadItem)))
    go true q x y = record { text = 63 ∷ 48 ∷ []; spelled = not_true; ends = tt; cut = ap (λ m. 63 ∷ m ∷ bytes) (eqb-true b 48 x) }
    go false true x y = record { text = 63 ∷ 49 ∷ []; spelled = is_true; ends = tt; cut = ap (λ m. 63 ∷ m ∷ bytes) (eqb-true b 49 y) }
    go false false x y = no_boolean (b ∷ bytes) (or_from (eqb b 48) (eqb b 49) x y)

string_item : (whole : List ℕ) (outcome : Outcome (List ℕ)) → IsStringRead whole outcome → IsItemRead whole (then_read outcome (λ text rest. Read (items.Str text) rest))
string_item whole (Read text rest) h = record {
  text = spelled_id text;
  spelled = string text h.0;
  ends = tt;
  cut = h.1 ∙ ap (λ x. 34 ∷ x) (sym (append_assoc (flat_map escaped text) (34 ∷ []) rest));
}
string_item whole (Bad left kind) h = h

-- what is read is what stands there
pub item_read : (bytes : List ℕ) → IsItemRead bytes (item_at bytes)
unfolding item_at
item_read [] = ended
item_read (b ∷ bytes) = go (eqb b 34) (eqb b 45 || is_digit b) (begins_token b) (eqb b 63) (eqb b 58 || eqb b 40) refl refl refl refl refl
  where
    go : (p q s t u : Bool) → eqb b 34 ≡ p → (eqb b 45 || is_digit b) ≡ q → begins_token b ≡ s → eqb b 63 ≡ t → (eqb b 58 || eqb b 40) ≡ u
        → IsItemRead (b ∷ bytes) (cond p (then_read (string_from (suc (length bytes)) [] bytes) (λ text rest. Read (items.Str text) rest)) (cond q (integer_at (b ∷ bytes)) (cond s (Read (items.Token (front_of is_in_token (b ∷ bytes))) (after is_in_token (b ∷ bytes))) (cond t (boolean_from (suc (length bytes)) bytes) (cond u (Bad (suc (length bytes)) NotCarried) (Bad (suc (length bytes)) BadItem))))))
    go true q s t u x y z v w =
        subst (λ m. IsItemRead (m ∷ bytes) (then_read (string_from (suc (length bytes)) [] bytes) (λ text rest. Read (items.Str text) rest))) (sym (eqb-true b 34 x))
        (string_item (34 ∷ bytes) (string_from (suc (length bytes)) [] bytes) (string_read (34 ∷ bytes) [] bytes tt refl))
    go false true s t u x y z v w = integer_read b bytes y
    go false false true t u x y z v w = record {
      text = front_of is_in_token (b ∷ bytes);
      spelled = token (front_of is_in_token (b ∷ bytes)) (front_word begins_token is_in_token token_goes_on b bytes z);
      ends = after_stops is_in_token (b ∷ bytes);
      cut = sym (front_after is_in_token (b ∷ bytes));
    }
    go false false false true u x y z v w = subst (λ m. IsItemRead (m ∷ bytes) (boolean_from (suc (length bytes)) bytes)) (sym (eqb-true b 63 v)) (boolean_read bytes)
    go false false false false true x y z v w = not_carried b bytes (elim (or_cases (eqb b 58) (eqb b 40) w) [ inl e ↦ inl (eqb-true b 58 e) | inr e ↦ inr (eqb-true b 40 e) ])
    go false false false false false x y z v w = no_item b bytes (rw (x, z, v) (let k = or_parts (eqb b 45) (is_digit b) y in let l = or_parts (eqb b 58) (eqb b 40) w in rw (k.0, k.1, l.0, l.1) refl))

at_token : (b : ℕ) (bytes : List ℕ) → begins_token b ≡ true → item_at (b ∷ bytes) ≡ Read (items.Token (front_of is_in_token (b ∷ bytes))) (after is_in_token (b ∷ bytes))
unfolding item_at
at_token b bytes h = let a = token_apart b h in rw (a.0, a.1, h) refl

at_number : (b : ℕ) (bytes : List ℕ) → eqb b 34 ≡ false → (eqb b 45 || is_digit b) ≡ true → item_at (b ∷ bytes) ≡ integer_at (b ∷ bytes)
unfolding item_at
at_number b bytes e f = rw (e, f) refl

unsigned : (b : ℕ) (bytes : List ℕ) → eqb b 45 ≡ false → integer_at (b ∷ bytes) ≡ digits_at (suc (length bytes)) pos (b ∷ bytes)
unfolding integer_at
unsigned b bytes e = rw e refl

at_digit : (b : ℕ) (bytes : List ℕ) → is_digit b ≡ true → item_at (b ∷ bytes) ≡ digits_at (suc (length bytes)) pos (b ∷ bytes)
at_digit b bytes h = let a = digit_apart b h in at_number b bytes a.0 (or_right (eqb b 45) (is_digit b) h) ∙ unsigned b bytes a.1

at_minus : (bytes : List ℕ) → item_at (45 ∷ bytes) ≡ digits_at (suc (length bytes)) (λ n. neg_ℤ (pos n)) bytes
unfolding item_at integer_at
at_minus bytes = refl

at_quote : (bytes : List ℕ) → item_at (34 ∷ bytes) ≡ then_read (string_from (suc (length bytes)) [] bytes) (λ text rest. Read (items.Str text) rest)
unfolding item_at
at_quote bytes = refl

at_question : (bytes : List ℕ) → item_at (63 ∷ bytes) ≡ boolean_from (suc (length bytes)) bytes
unfolding item_at
at_question bytes = refl

string_only : (text bytes rest : List ℕ) → Are is_printable text → bytes ≡ spelled_id text ++ rest → item_at bytes ≡ Read (items.Str text) rest
string_only text bytes rest h e =
    let more = (flat_map escaped text ++ 34 ∷ []) ++ rest in
    let regroup : more ≡ flat_map escaped text ++ 34 ∷ rest = append_assoc (flat_map escaped text) (34 ∷ []) rest in
    let read : string_from (suc (length more)) [] more ≡ Read text rest =
    ap (string_from (suc (length more)) []) regroup ∙ string_passes (suc (length more)) [] text (34 ∷ rest) h ∙ quote_ends (suc (length more)) text rest in
    ap item_at e ∙ at_quote more ∙ ap (λ o. then_read o (λ text rest. Read (items.Str text) rest)) read

digits_apart : (digits rest : List ℕ) (outcome : Outcome Item) → AreDigits digits → digits_at (length (digits ++ rest)) pos (digits ++ rest) ≡ outcome → item_at (digits ++ rest) ≡ outcome
digits_apart [] rest outcome d e = absurd (let s = d.some in omega arith)
digits_apart (b ∷ digits) rest outcome d e = at_digit b (digits ++ rest) d.are_digits.0 ∙ e

integer_only : (number : ℤ) (text bytes rest : List ℕ) → SpellsInteger number text → begins (λ b. is_digit b || eqb b 46) rest ≡ false → bytes ≡ text ++ rest → item_at bytes ≡ Read (items.Int number) rest
integer_only number text bytes rest (natural digits d) ends e =
    ap item_at e ∙ digits_apart digits rest (Read (items.Int (pos (digits_value 10 digits))) rest) d (digits_only (length (digits ++ rest)) pos digits rest d ends)
integer_only number text bytes rest (signed digits d) ends e =
    ap item_at e ∙ at_minus (digits ++ rest) ∙ digits_only (suc (length (digits ++ rest))) (λ n. neg_ℤ (pos n)) digits rest d ends

token_only : (word bytes rest : List ℕ) → IsWord begins_token is_in_token word → begins is_in_token rest ≡ false → bytes ≡ word ++ rest → item_at bytes ≡ Read (items.Token word) rest
token_only [] bytes rest h ends e = absurd h
token_only (b ∷ word) bytes rest h ends e =
    let are = word_goes_on begins_token is_in_token token_goes_on (b ∷ word) h in
    ap item_at e ∙ at_token b (word ++ rest) h.0 ∙ ap (λ t. Read (items.Token t) (after is_in_token (b ∷ (word ++ rest)))) (front_is is_in_token (b ∷ word) rest are ends) ∙ ap (λ t. Read (items.Token (b ∷ word)) t) (after_is is_in_token (b ∷ word) rest are ends)

boolean_false : (rest : List ℕ) → item_at (63 ∷ 48 ∷ rest) ≡ Read (items.Bool false) rest
unfolding item_at boolean_from
boolean_false rest = refl

boolean_true : (rest : List ℕ) → item_at (63 ∷ 49 ∷ rest) ≡ Read (items.Bool true) rest
unfolding item_at boolean_from
boolean_true rest = refl

spelled_only : (item : Item) (text bytes rest : List ℕ) → SpellsItem item text → EndsItem item rest → bytes ≡ text ++ rest → item_at bytes ≡ Read item rest
spelled_only item text bytes rest (string s h) ends e = string_only s bytes rest h e
spelled_only item text bytes rest (token word h) ends e = token_only word bytes rest h ends e
spelled_only item text bytes rest (integer number t h) ends e = integer_only number t bytes rest h ends e
spelled_only item text bytes rest not_true ends e = ap item_at e ∙ boolean_false rest
spelled_only item text bytes rest is_true ends e = ap item_at e ∙ boolean_true rest

pub item_only : (item : Item) (bytes rest : List ℕ) → TakesItem item bytes rest → item_at bytes ≡ Read item rest
item_only item bytes rest t = spelled_only item t.text bytes rest t.spelled t.ends t.cut

-- faults

in_string : (text more bytes : List ℕ) → Are is_printable text → bytes ≡ 34 ∷ (flat_map escaped text ++ more) → item_at bytes ≡ then_read (string_from (length bytes) text more) (λ text rest. Read (items.Str text) rest)
in_string text more bytes h e =
    let inner = flat_map escaped text ++ more in
    let size : suc (length inner) ≡ length bytes = ap length (sym e) in
    ap item_at e ∙ at_quote inner ∙ ap (λ o. then_read o (λ text rest. Read (items.Str text) rest)) (string_passes (suc (length inner)) [] text more h ∙ ap (λ n. string_from n text more) size)

fault_begins : (byte : ℕ) (rest : List ℕ) → begins_item byte ≡ false → item_at (byte ∷ rest) ≡ Bad (suc (length rest)) BadItem
unfolding item_at
fault_begins byte rest h =
    let a = or_parts _ (eqb byte 40) h in
    let b = or_parts _ (eqb byte 58) a.0 in
    let c = or_parts _ (eqb byte 63) b.0 in
    let d = or_parts _ (begins_token byte) c.0 in
    let f = or_parts _ (is_digit byte) d.0 in
    let g = or_parts (eqb byte 34) (eqb byte 45) f.0 in
    rw (g.0, g.1, f.1, d.1, c.1, b.1, a.1) refl

no_carrying : (byte : ℕ) (rest : List ℕ) → (byte ≡ 58) ⊎ (byte ≡ 40) → item_at (byte ∷ rest) ≡ Bad (suc (length rest)) NotCarried
unfolding item_at
no_carrying byte rest (inl e) = rw e refl
no_carrying byte rest (inr e) = rw e refl

no_flag : (rest : List ℕ) → begins (λ b. eqb b 48 || eqb b 49) rest ≡ false → boolean_from (suc (length rest)) rest ≡ Bad (suc (length rest)) BadItem
unfolding boolean_from
no_flag [] h = refl
no_flag (b ∷ rest) h = let k = or_parts (eqb b 48) (eqb b 49) h in rw (k.0, k.1) refl

long_only : (sign digits rest bytes : List ℕ) → IsSign sign → Are is_digit digits → 15 < length digits → bytes ≡ sign ++ (digits ++ rest) → item_at bytes ≡ Bad (length bytes) LongInteger
long_only sign [] rest bytes s d l e = absurd (omega arith)
long_only sign (b ∷ digits) rest bytes (inl s) d l e =
    let whole : bytes ≡ b ∷ (digits ++ rest) = e ∙ ap (λ x. x ++ (b ∷ (digits ++ rest))) s in
    ap item_at whole ∙ at_digit b (digits ++ rest) d.0 ∙ digits_long (suc (length (digits ++ rest))) pos (b ∷ digits) rest d l ∙ ap (λ x. Bad (length x) LongInteger) (sym whole)
long_only sign (b ∷ digits) rest bytes (inr s) d l e =
    let whole : bytes ≡ 45 ∷ b ∷ (digits ++ rest) = e ∙ ap (λ x. x ++ (b ∷ (digits ++ rest))) s in
    ap item_at whole ∙ at_minus (b ∷ (digits ++ rest)) ∙ digits_long (suc (suc (length (digits ++ rest)))) (λ n. neg_ℤ (pos n)) (b ∷ digits) rest d l ∙ ap (λ x. Bad (length x) LongInteger) (sym whole)

decimal_only : (sign digits rest bytes : List ℕ) → IsSign sign → AreDigits digits → bytes ≡ sign ++ (digits ++ 46 ∷ rest) → item_at bytes ≡ Bad (length bytes) NotCarried
decimal_only sign digits rest bytes (inl s) d e =
    let whole : bytes ≡ digits ++ 46 ∷ rest = e ∙ ap (λ x. x ++ (digits ++ 46 ∷ rest)) s in
    ap item_at whole ∙ digits_apart digits (46 ∷ rest) (Bad (length (digits ++ 46 ∷ rest)) NotCarried) d (digits_point (length (digits ++ 46 ∷ rest)) pos digits rest d) ∙ ap (λ x. Bad (length x) NotCarried) (sym whole)
decimal_only sign digits rest bytes (inr s) d e =
    let whole : bytes ≡ 45 ∷ (digits ++ 46 ∷ rest) = e ∙ ap (λ x. x ++ (digits ++ 46 ∷ rest)) s in
    ap item_at whole ∙ at_minus (digits ++ 46 ∷ rest) ∙ digits_point (suc (length (digits ++ 46 ∷ rest))) (λ n. neg_ℤ (pos n)) digits rest d ∙ ap (λ x. Bad (length x) NotCarried) (sym whole)

pub item_fault_only : (bytes : List ℕ) (left : ℕ) (kind : ShelfKind) → IsItemFault bytes left kind → item_at bytes ≡ Bad left kind
unfolding item_at
item_fault_only bytes left kind (unclosed text end whole h x e) = in_string text end whole h e ∙ ap (λ o. then_read o (λ text rest. Read (items.Str text) rest)) (end_is_bad (length whole) text end x)
item_fault_only bytes left kind (no_character text byte rest whole h x e) = in_string text (byte ∷ rest) whole h e ∙ ap (λ o. then_read o (λ text rest. Read (items.Str text) rest)) (byte_is_bad (length whole) text byte rest x)
item_fault_only bytes left kind (no_escape text byte rest whole h x e) = in_string text (92 ∷ byte ∷ rest) whole h e ∙ ap (λ o. then_read o (λ text rest. Read (items.Str text) rest)) (escape_is_bad (length whole) text byte rest x)
item_fault_only bytes left kind (no_digit rest x) = at_minus rest ∙ digits_none (suc (length rest)) (λ n. neg_ℤ (pos n)) rest x
item_fault_only bytes left kind (long sign digits rest whole s d l e) = long_only sign digits rest whole s d l e
item_fault_only bytes left kind (decimal sign digits rest whole s d e) = decimal_only sign digits rest whole s d e
item_fault_only bytes left kind (no_boolean rest x) = at_question rest ∙ no_flag rest x
item_fault_only bytes left kind (not_carried byte rest x) = no_carrying byte rest x
item_fault_only bytes left kind (no_item byte rest x) = fault_begins byte rest x
item_fault_only bytes left kind ended = refl
