-- The range that is computed of a value is the range that the value is.
use Rattle.std.proofs.Common.{◌≡◌, ℕ, ◌+◌, ◌<◌, ◌^◌, ◌==◌, ◌&&◌, inl, inr, Bool, true, false, cond, not, ◌↔◌, Option, Some, None, is_none, unwrap_or, Result, Ok, Err, List, [], ◌∷◌, ◌++◌, length, take, drop, codes, bytes_eq, refl, sym, ap, ◌∙◌, subst, arith, nat_eq, nat_le, nat_lt, eqb-true}
use Rattle.std.specs.Option.{option_and_then}
use Rattle.std.specs.Char.{is_ascii_digit}
use Rattle.std.specs.Str.{all_ascii_digits}
use Rattle.std.specs.Str.Parse.{digits_value}
use Rattle.std.specs.List.{list_all, prefix_len, take_while, starts_with}
use Rattle.std.proofs.lemmas.Bool.{and_parts, and_from, leb-true, le-leb, ltb-true, lt-ltb}
use Rattle.std.proofs.lemmas.Slice.Eq.{bytes_eq-Decides}
use Rattle.braid_shelf.specs.ByteClasses.{Are, begins}
use Rattle.braid_shelf.specs.Reading.{front_of, after}
use Rattle.braid_shelf.proofs.Passing.{front_after, front_passes, front_is, after_is}
use Rattle.braid_change.specs.RangeForms.{is_space, is_other, IsGap, IsNumber, AfterGap, AfterBracket, IsRange, IsDeparture, no_gap, no_bracket, no_start, no_colon, no_end, no_close, more, IsRangeFault}
use Rattle.braid_change.proofs.OneRange.{range_faultless}
use Rattle.braid_fields.specs.declared.reason.Reason.{Reason}
use Rattle.braid_fields.specs.declared.reason.Reason.TheVariants as reasons
use Rattle.braid_fields.specs.Table.{no_range}
use Rattle.braid_fields.specs.Rows.{one_range}
use Rattle.braid_change.specs.declared.range.RangeFault.{RangeFault}
use Rattle.braid_change.specs.declared.range.RangeFault.TheVariants.{Unit, Form, Number}
use Rattle.braid_fields.specs.declared.range.TextRange.{TextRange}
use Rattle.braid_fields.specs.Values.{has_other_unit, after_byte, after_gap, after_unit, Numbered, is_small, number_from, number_at, nothing_behind, range_from, range_after, range_in_value}
use Rattle.braid_fields.proofs.Padding.{all_are, are_all}
use Rattle.braid_fields.proofs.StatusReading.{starts_cut, cut_starts}

then_some : {A B : Type 0} (f : A → Option B) (o : Option A) (b : B) → option_and_then f o ≡ Some b → (a : A) × (o ≡ Some a) × (f a ≡ Some b)
then_some f None b e = absurd cc
then_some f (Some a) b e = (a, refl, e)

picked : {A : Type 0} (t : Bool) (x y : A) → cond t (Some x) None ≡ Some y → (t ≡ true) × (x ≡ y)
picked true x y e = (refl, cc)
picked false x y e = absurd cc

picks : {A : Type 0} (t : Bool) (x : A) → t ≡ true → cond t (Some x) None ≡ Some x
picks true x e = refl
picks false x e = absurd cc

-- a byte

byte_cut : (byte : ℕ) (bytes rest : List ℕ) → after_byte byte bytes ≡ Some rest → bytes ≡ byte ∷ rest
byte_cut byte [] rest e = absurd cc
byte_cut byte (b ∷ bytes) rest e =
    let p = picked (b == byte) bytes rest e in
    let first : b ≡ byte = eqb-true b byte p.0 in
    let behind : bytes ≡ rest = p.1 in
    cc

-- the unit

unit_cut : (bytes rest : List ℕ) → after_unit bytes ≡ Some rest → bytes ≡ codes "text" ++ rest
unit_cut bytes rest e =
    let p = picked (starts_with nat_eq bytes (codes "text")) (drop 4 bytes) rest e in
    starts_cut bytes (codes "text") p.0 ∙ ap (λ x. codes "text" ++ x) p.1

cut_unit : (bytes rest : List ℕ) → bytes ≡ codes "text" ++ rest → after_unit bytes ≡ Some rest
cut_unit bytes rest e = ap after_unit e ∙ picks (starts_with nat_eq (codes "text" ++ rest) (codes "text")) rest (cut_starts (codes "text") rest)

-- the gap

gap_cut : (bytes rest : List ℕ) → after_gap bytes ≡ Some rest → (gap : List ℕ) × IsGap gap × (bytes ≡ gap ++ rest)
gap_cut bytes rest e =
    let p = picked (nat_lt 0 (length (front_of is_space bytes))) (after is_space bytes) rest e in (
      front_of is_space bytes,
      record { some = ltb-true 0 (length (front_of is_space bytes)) p.0; spaces = are_all is_space (front_of is_space bytes) (front_passes is_space bytes) },
      sym (front_after is_space bytes) ∙ ap (λ x. front_of is_space bytes ++ x) p.1,
    )

cut_gap : (gap rest : List ℕ) → IsGap gap → begins is_space rest ≡ false → after_gap (gap ++ rest) ≡ Some rest
cut_gap gap rest g s =
    let front = front_is is_space gap rest (all_are is_space gap g.spaces) s in
    let behind = after_is is_space gap rest (all_are is_space gap g.spaces) s in
    picks (nat_lt 0 (length (front_of is_space (gap ++ rest)))) (after is_space (gap ++ rest)) (ap (λ x. nat_lt 0 (length x)) front ∙ lt-ltb 0 (length gap) g.some) ∙ ap (λ (x : List ℕ). Some x) behind

-- a number

all_digits : (digits : List ℕ) → Are is_ascii_digit digits → all_ascii_digits digits ≡ true
all_digits [] h = refl
all_digits (d ∷ digits) h = and_from (is_ascii_digit d) (all_ascii_digits digits) h.0 (all_digits digits h.1)

digits_all : (digits : List ℕ) → all_ascii_digits digits ≡ true → Are is_ascii_digit digits
digits_all [] h = tt
digits_all (d ∷ digits) h = let p = and_parts (is_ascii_digit d) (all_ascii_digits digits) h in (p.0, digits_all digits p.1)

small_number : (digits : List ℕ) → Are is_ascii_digit digits → is_small digits ≡ true → IsNumber digits (digits_value 10 digits)
small_number digits d h =
    let p = and_parts (nat_lt 0 (length digits) && nat_le (length digits) 10) (nat_lt (digits_value 10 digits) (2 ^ 32)) h in
    let q = and_parts (nat_lt 0 (length digits)) (nat_le (length digits) 10) p.0 in
    record {
      some = ltb-true 0 (length digits) q.0;
      short = leb-true (length digits) 10 q.1;
      decimal = all_digits digits d;
      value = refl;
      small = ltb-true (digits_value 10 digits) (2 ^ 32) p.1;
    }

number_small : (digits : List ℕ) (n : ℕ) → IsNumber digits n → is_small digits ≡ true
number_small digits n h =
    let below : digits_value 10 digits < 2 ^ 32 = subst (λ (k : ℕ). k < 2 ^ 32) h.value h.small in
    and_from _ _ (and_from _ _ (lt-ltb 0 (length digits) h.some) (le-leb (length digits) 10 h.short)) (lt-ltb (digits_value 10 digits) (2 ^ 32) below)

number_cut : (bytes : List ℕ) (n : Numbered) → number_at bytes ≡ Some n → (digits : List ℕ) × IsNumber digits n.number × (bytes ≡ digits ++ n.rest)
number_cut bytes n e =
    let digits = front_of is_ascii_digit bytes in
    let rest = after is_ascii_digit bytes in
    let p = picked (is_small digits) (record { number = digits_value 10 digits; rest = rest }) n e in
    let number : digits_value 10 digits ≡ n.number = ap (λ (k : Numbered). k.number) p.1 in
    let behind : rest ≡ n.rest = ap (λ (k : Numbered). k.rest) p.1 in (
      digits,
      subst (IsNumber digits) number (small_number digits (front_passes is_ascii_digit bytes) p.0),
      sym (front_after is_ascii_digit bytes) ∙ ap (λ x. digits ++ x) behind,
    )

cut_number : (digits rest : List ℕ) (n : ℕ) → IsNumber digits n → begins is_ascii_digit rest ≡ false → number_at (digits ++ rest) ≡ Some (record { number = n; rest = rest })
cut_number digits rest n h s =
    let are = digits_all digits h.decimal in
    let front = front_is is_ascii_digit digits rest are s in
    let behind = after_is is_ascii_digit digits rest are s in
    let made : Numbered = record { number = digits_value 10 digits; rest = rest } in
    let same : made ≡ record { number = n; rest = rest } = ap (λ (k : ℕ). record { number = k; rest = rest }) (sym h.value) in
    ap (λ x. number_from x (after is_ascii_digit (digits ++ rest))) front ∙ ap (number_from digits) behind ∙ picks (is_small digits) made (number_small digits n h) ∙ ap (λ (x : Numbered). Some x) same

-- the whole range

abbrev made : ℕ → ℕ → TextRange
made start end = record { start = start; end = end }

nothing_left : (range : TextRange) (bytes : List ℕ) (found : TextRange) → nothing_behind range bytes ≡ Some found → (bytes ≡ []) × (range ≡ found)
nothing_left range [] found e = (refl, cc)
nothing_left range (b ∷ bytes) found e = absurd cc

-- what is behind the colon of a range
record Second (start : ℕ) (bytes : List ℕ) (range : TextRange) : Type 0 where
  digits : List ℕ
  end : ℕ
  number : IsNumber digits end
  cut : bytes ≡ digits ++ 93 ∷ []
  same : made start end ≡ range

second : (start : ℕ) (bytes : List ℕ) (range : TextRange) → range_from start bytes ≡ Some range → Second start bytes range
second start bytes range e =
    let a = then_some (λ (n : Numbered). option_and_then (nothing_behind (made start n.number)) (after_byte 93 n.rest)) (number_at bytes) range e in
    let c = number_cut bytes a.0 a.1 in
    let b = then_some (nothing_behind (made start a.0.number)) (after_byte 93 a.0.rest) range a.2 in
    let n = nothing_left (made start a.0.number) b.0 range b.2 in
    record {
      digits = c.0;
      end = a.0.number;
      number = c.1;
      cut = c.2 ∙ ap (λ x. c.0 ++ x) (byte_cut 93 a.0.rest b.0 b.1 ∙ ap (λ x. 93 ∷ x) n.0);
      same = n.1;
    }

-- what is behind the bracket of a range
record First (bytes : List ℕ) (range : TextRange) : Type 0 where
  digits : List ℕ
  start : ℕ
  rest : List ℕ
  number : IsNumber digits start
  cut : bytes ≡ digits ++ 58 ∷ rest
  second : Second start rest range

first : (bytes : List ℕ) (range : TextRange) → range_after bytes ≡ Some range → First bytes range
first bytes range e =
    let a = then_some (λ (n : Numbered). option_and_then (range_from n.number) (after_byte 58 n.rest)) (number_at bytes) range e in
    let c = number_cut bytes a.0 a.1 in
    let b = then_some (range_from a.0.number) (after_byte 58 a.0.rest) range a.2 in
    record { digits = c.0; start = a.0.number; rest = b.0; number = c.1; cut = c.2 ∙ ap (λ x. c.0 ++ x) (byte_cut 58 a.0.rest b.0 b.1); second = second a.0.number b.0 range b.2 }

value_range : (value : List ℕ) (range : TextRange) → range_in_value value ≡ Some range → IsRange value range.start range.end
unfolding range_in_value
value_range value range e =
    let a = then_some range_after (option_and_then (after_byte 91) (option_and_then after_gap (after_unit value))) range e in
    let b = then_some (after_byte 91) (option_and_then after_gap (after_unit value)) a.0 a.1 in
    let c = then_some after_gap (after_unit value) b.0 b.1 in
    let g = gap_cut c.0 b.0 c.2 in
    let f = first a.0 range a.2 in
    let s = f.second in
    let bracket : AfterBracket value a.0 = (g.0, g.1, unit_cut value c.0 c.1 ∙ ap (λ x. codes "text" ++ x) (g.2 ∙ ap (λ x. g.0 ++ x) (byte_cut 91 b.0 a.0 b.2))) in
    let start : AfterBracket value (f.digits ++ 58 ∷ (s.digits ++ 93 ∷ [])) = subst (AfterBracket value) (f.cut ∙ ap (λ x. f.digits ++ 58 ∷ x) s.cut) bracket in
    let found : IsRange value f.start s.end = (s.digits, s.number, (f.digits, f.number, start)) in
    subst (λ (r : TextRange). IsRange value r.start r.end) s.same found

range_value : (value : List ℕ) (start end : ℕ) → IsRange value start end → range_in_value value ≡ Some (made start end)
unfolding range_in_value
range_value value start end (d, k, (c, h, (g, is, e))) =
    let tail : List ℕ = c ++ 58 ∷ (d ++ 93 ∷ []) in
    let unit : after_unit value ≡ Some (g ++ 91 ∷ tail) = cut_unit value (g ++ 91 ∷ tail) e in
    let gap : after_gap (g ++ 91 ∷ tail) ≡ Some (91 ∷ tail) = cut_gap g (91 ∷ tail) is refl in
    let one : number_at tail ≡ Some (record { number = start; rest = 58 ∷ (d ++ 93 ∷ []) }) = cut_number c (58 ∷ (d ++ 93 ∷ [])) start h refl in
    let two : number_at (d ++ 93 ∷ []) ≡ Some (record { number = end; rest = 93 ∷ [] }) = cut_number d (93 ∷ []) end k refl in
    ap (λ (o : Option (List ℕ)). option_and_then range_after (option_and_then (after_byte 91) (option_and_then after_gap o))) unit
    ∙ ap (λ (o : Option (List ℕ)). option_and_then range_after (option_and_then (after_byte 91) o)) gap
    ∙ ap (option_and_then (λ (n : Numbered). option_and_then (range_from n.number) (after_byte 58 n.rest))) one
    ∙ ap (option_and_then (λ (n : Numbered). option_and_then (nothing_behind (made start n.number)) (after_byte 93 n.rest))) two

-- the range of a value is the one that the value is
pub range_law : (value : List ℕ) (range : TextRange) → range_in_value value ≡ Some range ↔ IsRange value range.start range.end
range_law value range = (value_range value range, range_value value range.start range.end)

-- the unit

unit_taken : (value rest : List ℕ) → AfterGap value rest → take_while is_other value ≡ codes "text"
unit_taken value rest ([], is, e) = absurd (omega (arith, is.some))
unit_taken value rest (c ∷ g, is, e) =
    let t = (and_parts (is_space c) (list_all is_space g) is.spaces).0 in
    let n : prefix_len is_other (codes "text" ++ (c ∷ g ++ rest)) ≡ 4 = ap (λ b. 1 + (1 + (1 + (1 + cond (not b) (1 + prefix_len is_other (g ++ rest)) 0)))) t in
    ap (take_while is_other) e ∙ ap (λ (k : ℕ). take k (codes "text" ++ (c ∷ g ++ rest))) n

departs_so : (value rest : List ℕ) → IsDeparture value rest → take_while is_other value ≡ codes "text"
departs_so value rest (no_gap e f) = ap (take_while is_other) e
departs_so value rest (no_bracket g s t) = unit_taken value _ g
departs_so value rest (no_start g s) = unit_taken value _ g
departs_so value rest (no_colon n g s t) = unit_taken value _ g.2
departs_so value rest (no_end n g s) = unit_taken value _ g.2
departs_so value rest (no_close n j g s t) = unit_taken value _ g.2.2
departs_so value rest (more n j g s) = unit_taken value _ g.2.2

unit_of : (value : List ℕ) → take_while is_other value ≡ codes "text" → has_other_unit value ≡ false
unfolding has_other_unit
unit_of value e = ap not ((bytes_eq-Decides (take_while is_other value) (codes "text")).1 e)

-- a value with the unit `text` is none of another unit
pub range_unit : (value : List ℕ) (start end : ℕ) → IsRange value start end → has_other_unit value ≡ false
range_unit value start end r = unit_of value (unit_taken value _ r.2.2)

pub form_unit : (value : List ℕ) (at : ℕ) → IsRangeFault value (Form at) → has_other_unit value ≡ false
form_unit value at f = unit_of value (departs_so value f.0 f.1)

pub number_unit : (value : List ℕ) → IsRangeFault value Number → has_other_unit value ≡ false
number_unit value (inl f) = unit_of value (unit_taken value _ f.1)
number_unit value (inr f) = unit_of value (unit_taken value _ f.2.2)

-- another unit is another word before the first space
pub unit_law : (value : List ℕ) → has_other_unit value ≡ true ↔ IsRangeFault value Unit
unfolding has_other_unit
unit_law value = (λ h e. true_false (bytes_eq (take_while is_other value) (codes "text")) h ((bytes_eq-Decides (take_while is_other value) (codes "text")).1 e), λ n. other (bytes_eq (take_while is_other value) (codes "text")) (λ h. n ((bytes_eq-Decides (take_while is_other value) (codes "text")).0 h)))
  where
    true_false : (t : Bool) → not t ≡ true → t ≡ true → ⊥
    true_false true h e = cc
    true_false false h e = cc

    other : (t : Bool) → (t ≡ true → ⊥) → not t ≡ true
    other true n = absurd (n refl)
    other false n = refl

-- what is read of one value

abbrev range_judged : Bool → Option TextRange → Result TextRange Reason
range_judged unit o = cond unit (Err reasons.OtherUnit) (cond (is_none o) (Err reasons.BadRange) (Ok (unwrap_or o no_range)))

pub range_found : (value : List ℕ) (start end : ℕ) → IsRange value start end → one_range value ≡ Ok (made start end)
range_found value start end r = λ i. range_judged (range_unit value start end r i) (range_value value start end r i)

none_read : (value : List ℕ) (fault : RangeFault) → IsRangeFault value fault → range_in_value value ≡ None
none_read value fault f = go (range_in_value value) refl
  where
    go : (o : Option TextRange) → range_in_value value ≡ o → o ≡ None
    go None e = refl
    go (Some range) e = absurd (range_faultless value range.start range.end fault (value_range value range e) f)

pub unit_fault : (value : List ℕ) → IsRangeFault value Unit → one_range value ≡ Err reasons.OtherUnit
unit_fault value f = ap (λ (t : Bool). range_judged t (range_in_value value)) ((unit_law value).1 f)

bad_fault : (value : List ℕ) (fault : RangeFault) → has_other_unit value ≡ false → IsRangeFault value fault → one_range value ≡ Err reasons.BadRange
bad_fault value fault u f = λ i. range_judged (u i) (none_read value fault f i)

pub form_fault : (value : List ℕ) (at : ℕ) → IsRangeFault value (Form at) → one_range value ≡ Err reasons.BadRange
form_fault value at f = bad_fault value (Form at) (form_unit value at f) f

pub number_fault : (value : List ℕ) → IsRangeFault value Number → one_range value ≡ Err reasons.BadRange
number_fault value f = bad_fault value Number (number_unit value f) f
