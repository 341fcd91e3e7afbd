-- A range is read from the left: what each step leaves, and where a value departs.
use Rattle.std.proofs.Common.{◌≡◌, ◌≢◌, ◌==◌, ℕ, zero, suc, ◌+◌, ◌-◌, ◌<◌, ◌≤◌, ◌^◌, inl, inr, List, [], ◌∷◌, ◌++◌, Bool, true, false, not, cond, ◌&&◌, refl, sym, ap, subst, ◌∙◌, arith, take, drop, length, codes, Bor, Result, Ok, Err, IfOk, IfErr, IsUtf8}
use Rattle.std.proofs.lemmas.List.{take-append-drop, length-append}
use Rattle.std.proofs.lemmas.List.Folds.{length-prefix_len}
use Rattle.std.proofs.lemmas.Bool.{and_parts, cases_lt}
use Rattle.std.proofs.lemmas.List.Sums.{prefix_len-le-length}
use Rattle.std.proofs.lemmas.Result.{OkIff-at_err}
use Rattle.std.proofs.lemmas.Bool.Decides.{nat_tests}
use Rattle.std.proofs.lemmas.Str.{IsUtf8-from_ascii}
use Rattle.std.proofs.lemmas.Str.Parse.{IsNumeralModel, numerals_by_value, tells_all_ascii_digits, parse_digits}
use Rattle.std.specs.List.{prefix_len, list_all, take_while}
use Rattle.std.specs.Char.{is_ascii_digit}
use Rattle.std.specs.Str.{all_ascii_digits, IsAscii}
use Rattle.std.specs.Str.Parse.{digits_value, ParsesUnsigned}
use Rattle.braid_change.specs.RangeForms.{is_space, is_other, starts, IsNumber, IsTooLarge, AfterGap, AfterBracket, AfterStart, AfterColon, AfterEnd, AfterClose, IsDeparture, no_bracket, no_colon, no_end, no_close, IsRangeFault, IsByteFault, IsNumberFault}
use Rattle.braid_change.specs.declared.range.RangeFault.{RangeFault}
use Rattle.braid_change.specs.declared.range.RangeFault.TheVariants.{Unit, Form, Number}

-- the front that passes, as far as it goes
all_pass : (p : ℕ → Bool) (xs : List ℕ) → list_all p (take (prefix_len p xs) xs) ≡ true
all_pass p [] = refl
all_pass p (x ∷ xs) = go (p x) refl (all_pass p xs)
  where
    next : suc (prefix_len p xs) ≡ 1 + prefix_len p xs
    next = omega arith

    go : (b : Bool) → p x ≡ b → list_all p (take (prefix_len p xs) xs) ≡ true → list_all p (take (cond b (1 + prefix_len p xs) 0) (x ∷ xs)) ≡ true
    go true e h = ap (λ (n : ℕ). list_all p (take n (x ∷ xs))) (sym next) ∙ ap (λ b. b && list_all p (take (prefix_len p xs) xs)) e ∙ h
    go false e h = refl

-- what follows it does not pass
stops : (p : ℕ → Bool) (xs : List ℕ) → starts p (drop (prefix_len p xs) xs) ≡ false
stops p [] = refl
stops p (x ∷ xs) = go (p x) refl (stops p xs)
  where
    next : suc (prefix_len p xs) ≡ 1 + prefix_len p xs
    next = omega arith

    go : (b : Bool) → p x ≡ b → starts p (drop (prefix_len p xs) xs) ≡ false → starts p (drop (cond b (1 + prefix_len p xs) 0) (x ∷ xs)) ≡ false
    go true e h = ap (λ (n : ℕ). starts p (drop n (x ∷ xs))) (sym next) ∙ h
    go false e h = e

same_test : (ds : List ℕ) → list_all is_ascii_digit ds ≡ true → all_ascii_digits ds ≡ true
same_test [] h = refl
same_test (d ∷ ds) h = go (is_ascii_digit d) h (λ k. same_test ds k)
  where
    go : (b : Bool) → b && list_all is_ascii_digit ds ≡ true → (list_all is_ascii_digit ds ≡ true → all_ascii_digits ds ≡ true) → b && all_ascii_digits ds ≡ true
    go true h deep = deep h
    go false h deep = cc

zero_tells : (n : ℕ) → (n == 0) ≡ true → n ≡ 0
zero_tells n e = grind (arith, nat_tests)

pub run_in : (p : ℕ → Bool) (n : ℕ) (xs : List ℕ) → n ≡ prefix_len p xs → n ≤ length xs
run_in p n xs e = let h = prefix_len-le-length p xs in omega arith

-- a list is not empty
pub some_left : (xs : List ℕ) → false ≡ (length xs == 0) → 0 < length xs
some_left xs e = grind (arith, nat_tests)

pub some_items : (xs : List ℕ) → 0 < length xs → xs ≡ [] → ⊥
some_items [] h e = absurd (omega arith)
some_items (x ∷ xs) h e = cc

-- the parts of a run at the front
record Parts (p : ℕ → Bool) (xs front back : List ℕ) : Type 0 where
  whole : xs ≡ front ++ back
  pass : list_all p front ≡ true
  stop : starts p back ≡ false

parts : (p : ℕ → Bool) (xs front back : List ℕ) (n : ℕ) → n ≡ prefix_len p xs → front ≡ take n xs → back ≡ drop n xs → Parts p xs front back
parts p xs front back n e f b =
    let front_is : front ≡ take (prefix_len p xs) xs = f ∙ ap (λ (k : ℕ). take k xs) e in
    let back_is : back ≡ drop (prefix_len p xs) xs = b ∙ ap (λ (k : ℕ). drop k xs) e in
    record {
      whole = sym (take-append-drop n xs) ∙ ap (λ z. z ++ drop n xs) (sym f) ∙ ap (λ z. front ++ z) (sym b);
      pass = ap (list_all p) front_is ∙ all_pass p xs;
      stop = ap (starts p) back_is ∙ stops p xs;
    }

-- the spaces after the unit
pub gap_read : (value after gap rest : List ℕ) (n : ℕ) → value ≡ codes "text" ++ after → n ≡ prefix_len is_space after → gap ≡ take n after → rest ≡ drop n after → false ≡ (length gap == 0) → AfterGap value rest
gap_read value after gap rest n v e f b s =
    let r = parts is_space after gap rest n e f b in
    (gap, record { some = some_left gap s; spaces = r.pass }, v ∙ ap (λ z. codes "text" ++ z) r.whole)

pub gap_stops : (after rest : List ℕ) (n : ℕ) → n ≡ prefix_len is_space after → rest ≡ drop n after → starts is_space rest ≡ false
gap_stops after rest n e b = (parts is_space after (take n after) rest n e refl b).stop

-- a unit that goes on
pub unit_on : (value after gap : List ℕ) (n : ℕ) → value ≡ codes "text" ++ after → false ≡ (length after == 0) → n ≡ prefix_len is_space after → gap ≡ take n after → true ≡ (length gap == 0) → take_while is_other value ≢ codes "text"
unit_on value [] gap n v some e f empty = λ h. absurd (cc)
unit_on value (x ∷ xs) gap n v some e f empty = λ h. go (is_space x) refl (sym (ap (take_while is_other) v) ∙ h)
  where
    none : length gap ≡ 0
    none = zero_tells (length gap) (sym empty)

    go : (b : Bool) → is_space x ≡ b → take_while is_other (codes "text" ++ x ∷ xs) ≡ codes "text" → ⊥
    go true t h =
        let m = prefix_len is_space xs in
        let k : n ≡ suc m = (let c : n ≡ 1 + m = e ∙ ap (λ b. cond b (1 + m) 0) t in omega arith) in
        let g : length gap ≡ suc (length (take m xs)) = ap length (f ∙ ap (λ (j : ℕ). take j (x ∷ xs)) k) in
        absurd (omega (arith, none))
    go false t h =
        let m = prefix_len is_other xs in
        let whole : prefix_len is_other (codes "text" ++ x ∷ xs) ≡ 1 + (1 + (1 + (1 + (1 + m)))) = ap (λ b. 1 + (1 + (1 + (1 + cond (not b) (1 + m) 0)))) t in
        let len = length-prefix_len is_other (codes "text" ++ x ∷ xs) in
        let four : length (take_while is_other (codes "text" ++ x ∷ xs)) ≡ 4 = ap length h in
        absurd (omega (arith, whole, len, four))

-- what follows the gap is the bracket, or a departure
pub front_ok : (value rest : List ℕ) (r : Result (Bor (List ℕ)) RangeFault) → AfterGap value rest → IfOk r (λ after. rest ≡ 91 ∷ after.now) → IfOk r (λ after. AfterBracket value after.now)
front_ok value rest (Ok x) g h = subst (AfterGap value) h g
front_ok value rest (Err f) g h = tt

bracket_fault : (value rest : List ℕ) (f : RangeFault) → AfterGap value rest → starts is_space rest ≡ false → IsByteFault 91 (length value) rest f → IsRangeFault value f
bracket_fault value rest Unit g s h = absurd h
bracket_fault value rest (Form at) g s h = (rest, no_bracket g s h.0, h.1)
bracket_fault value rest Number g s h = absurd h

pub front_fault : (value rest : List ℕ) (r : Result (Bor (List ℕ)) RangeFault) → AfterGap value rest → starts is_space rest ≡ false → IfErr r (λ f. IsByteFault 91 (length value) rest f) → IfErr r (λ f. IsRangeFault value f)
front_fault value rest (Ok x) g s h = tt
front_fault value rest (Err f) g s h = bracket_fault value rest f g s h

pub colon_fault : (value rest : List ℕ) (start : ℕ) (f : RangeFault) → AfterStart value start rest → starts is_ascii_digit rest ≡ false → IsByteFault 58 (length value) rest f → IsRangeFault value f
colon_fault value rest start Unit g s h = absurd h
colon_fault value rest start (Form at) g s h = (rest, no_colon start g s h.0, h.1)
colon_fault value rest start Number g s h = absurd h

pub close_fault : (value rest : List ℕ) (start end : ℕ) (f : RangeFault) → AfterEnd value start end rest → starts is_ascii_digit rest ≡ false → IsByteFault 93 (length value) rest f → IsRangeFault value f
close_fault value rest start end Unit g s h = absurd h
close_fault value rest start end (Form at) g s h = (rest, no_close start end g s h.0, h.1)
close_fault value rest start end Number g s h = absurd h

pub end_fault : (value rest : List ℕ) (start : ℕ) (f : RangeFault) → AfterColon value start rest → IsNumberFault (length value) rest f → IsRangeFault value f
end_fault value rest start Unit g h = absurd h
end_fault value rest start (Form at) g h = (rest, no_end start g h.0, h.1)
end_fault value rest start Number g h = inr (start, rest, g, h)

-- the digits at the front
pub digits_pass : (rest digits after : List ℕ) (n : ℕ) → n ≡ prefix_len is_ascii_digit rest → digits ≡ take n rest → after ≡ drop n rest → all_ascii_digits digits ≡ true
digits_pass rest digits after n e f b = same_test digits (parts is_ascii_digit rest digits after n e f b).pass

pub digits_stop : (rest digits after : List ℕ) (n : ℕ) → n ≡ prefix_len is_ascii_digit rest → digits ≡ take n rest → after ≡ drop n rest → starts is_ascii_digit after ≡ false
digits_stop rest digits after n e f b = (parts is_ascii_digit rest digits after n e f b).stop

pub digits_whole : (rest digits after : List ℕ) (n : ℕ) → n ≡ prefix_len is_ascii_digit rest → digits ≡ take n rest → after ≡ drop n rest → rest ≡ digits ++ after
digits_whole rest digits after n e f b = (parts is_ascii_digit rest digits after n e f b).whole

own : IsNumeralModel (λ ds. all_ascii_digits ds ≡ true) (digits_value 10)
own = numerals_by_value _ tells_all_ascii_digits

-- digits are ASCII, and so UTF-8
digit_small : (c : ℕ) → is_ascii_digit c ≡ true → c < 128
digit_small c h = grind (arith, nat_tests)

ascii_digits : (ds : List ℕ) → all_ascii_digits ds ≡ true → IsAscii ds
ascii_digits [] h zero = omega arith
ascii_digits [] h (suc i) = omega arith
ascii_digits (d ∷ ds) h zero = digit_small d (and_parts (is_ascii_digit d) (all_ascii_digits ds) h).0
ascii_digits (d ∷ ds) h (suc i) = ascii_digits ds (and_parts (is_ascii_digit d) (all_ascii_digits ds) h).1 i

pub digits_utf8 : (ds : List ℕ) → all_ascii_digits ds ≡ true → IsUtf8 ds
digits_utf8 ds h = IsUtf8-from_ascii ds (ascii_digits ds h)

-- digits that do not parse are too large
pub unparsed : {E : Type 0} (ds text : List ℕ) (r : Result ℕ E) (e : E) → text ≡ ds → all_ascii_digits ds ≡ true → 0 < length ds → ParsesUnsigned 32 10 text r → r ≡ Err e → IsTooLarge ds
unparsed ds text r e same h some p err =
    let q = OkIff-at_err r ((0 < length ds) × (digits_value 10 ds < 2 ^ 32)) (digits_value 10 ds) e (parse_digits own 32 ds r (subst (λ t. ParsesUnsigned 32 10 t r) same p) h) err in
    record { decimal = h; large = elim (cases_lt (digits_value 10 ds) (2 ^ 32)) [ inl lt ↦ absurd (q (some, lt)) | inr ge ↦ inr ge ] }

-- what a number leaves
abbrev pub NumberRead : List ℕ → ℕ → List ℕ → Type 0
NumberRead rest n after = (digits : List ℕ) × IsNumber digits n × (starts is_ascii_digit after ≡ false) × (rest ≡ digits ++ after)

pub after_start : (value rest after : List ℕ) (n : ℕ) → AfterBracket value rest → NumberRead rest n after → AfterStart value n after
after_start value rest after n g (digits, is, stop, whole) = (digits, is, subst (AfterBracket value) whole g)

pub after_colon : (value rest after : List ℕ) (n : ℕ) → AfterStart value n rest → rest ≡ 58 ∷ after → AfterColon value n after
after_colon value rest after n g e = subst (AfterStart value n) e g

pub after_end : (value rest after : List ℕ) (start n : ℕ) → AfterColon value start rest → NumberRead rest n after → AfterEnd value start n after
after_end value rest after start n g (digits, is, stop, whole) = (digits, is, subst (AfterColon value start) whole g)

pub after_close : (value rest after : List ℕ) (start end : ℕ) → AfterEnd value start end rest → rest ≡ 93 ∷ after → AfterClose value start end after
after_close value rest after start end g e = subst (AfterEnd value start end) e g

pub stops_digits : (rest after : List ℕ) (n : ℕ) → NumberRead rest n after → starts is_ascii_digit after ≡ false
stops_digits rest after n (digits, is, stop, whole) = stop

-- a fault with the place where a value departs
pub departed : (value rest : List ℕ) (fault : RangeFault) → fault ≡ Form (length value - length rest) → length rest ≤ length value → IsDeparture value rest → IsRangeFault value fault
departed value rest fault e l d =
    let sum : (length value - length rest) + length rest ≡ length value = omega arith in
    subst (IsRangeFault value) (sym e) (rest, d, sum)

-- what is left is no longer than the value
pub closed_within : (value rest : List ℕ) (start end : ℕ) → AfterClose value start end rest → length rest ≤ length value
closed_within value rest start end (b, is, (a, also, (gap, some, whole))) =
    let n = ap length whole in
    let one = length-append gap (91 ∷ (a ++ 58 ∷ (b ++ 93 ∷ rest))) in
    let two = length-append a (58 ∷ (b ++ 93 ∷ rest)) in
    let three = length-append b (93 ∷ rest) in
    omega (arith, n, one, two, three)
