-- Decimal numbers as the values of fields.
use Rattle.std.proofs.Common.{◌≡◌, ℕ, ◌<◌, ◌≤◌, ◌^◌, true, false, IsTrue, List, [], ◌∷◌, length, reverse, decimal, nat_le, pos, append-nil, refl, sym, subst, arith, Some}
use Rattle.std.specs.List.{AllByRecursion, list_all}
use Rattle.std.specs.Str.{all_ascii_digits}
use Rattle.std.specs.Str.Parse.{digits_value}
use Rattle.std.specs.Char.{is_ascii_digit}
use Rattle.std.proofs.lemmas.Bool.{and_parts, and_from, le-leb, leb-true, cond-false, ne_eqb, or_from}
use Rattle.std.proofs.lemmas.Bool.Decides.{nat_tests}
use Rattle.std.proofs.lemmas.List.Elements.{All-from_recursion, All-head}
use Rattle.std.proofs.lemmas.Fmt.{length-decimal-le, decimal_is_IsNumeral}
use Rattle.httparse.specs.Grammar.{AllPass, is_ows, skip_ows, trim_ows, is_value_byte}
use Rattle.httparse.proofs.TrimLemmas.{trim_ows_space, AllPass-reverse}
use Rattle.braid_shelf.specs.ByteClasses.{is_digit}
use Rattle.braid_shelf.specs.Lists.{AreDigits, natural, integer, SpellsList, full, count_member}
use Rattle.braid_fields.specs.Values.{are_length_digits, count_in_value}
use Rattle.braid_fields.proofs.ValueReading.{count_law}
use Rattle.braid_fields.proofs.CanonicalLines.{decimal_digits}
use Rattle.braid_sync.proofs.LawWritten.{Each}

abbrev Digits : List ℕ → Type 0
Digits xs = AllByRecursion (λ (b : ℕ). is_digit b ≡ true) xs

digits_are : (xs : List ℕ) → all_ascii_digits xs ≡ true → Digits xs
digits_are [] h = tt
digits_are (x ∷ xs) h = let p = and_parts (is_ascii_digit x) (all_ascii_digits xs) h in (p.0, digits_are xs p.1)

all_digits : (xs : List ℕ) → Digits xs → list_all is_digit xs ≡ true
all_digits [] h = refl
all_digits (x ∷ xs) h = and_from (is_digit x) (list_all is_digit xs) h.0 (all_digits xs h.1)

number_digits : (n : ℕ) → n < 2 ^ 32 → Digits (decimal n)
number_digits n l = digits_are (decimal n) (decimal_digits n (omega (arith, l)))

-- a number has at most 15 digits, and they are read as it
pub number_measured : (n : ℕ) → n < 2 ^ 32 → are_length_digits (decimal n) ≡ true
number_measured n l =
    let some : 1 ≤ length (decimal n) = (let s = (decimal_is_IsNumeral n (omega (arith, l))).0.0 in omega (arith, s)) in
    let few : length (decimal n) ≤ 15 = length-decimal-le 15 n (omega arith) (omega (arith, l)) (omega (arith, l)) in
    and_from _ _ (and_from _ _ (le-leb 1 (length (decimal n)) some) (le-leb (length (decimal n)) 15 few)) (all_digits (decimal n) (number_digits n l))

pub number_value : (n : ℕ) → n < 2 ^ 32 → digits_value 10 (decimal n) ≡ n
number_value n l = (decimal_is_IsNumeral n (omega (arith, l))).1

-- a digit is no white space
digit_black : (b : ℕ) → is_digit b ≡ true → is_ows b ≡ false
digit_black b h =
    let p = and_parts (nat_le 48 b) (nat_le b 57) h in
    let low : 48 ≤ b = leb-true 48 b p.0 in
    or_from _ _ (ne_eqb b 32 (λ e. omega (arith, low, e))) (ne_eqb b 9 (λ e. omega (arith, low, e)))

pass_black : (xs : List ℕ) → AllPass is_digit xs → skip_ows xs ≡ xs
pass_black [] h = refl
pass_black (x ∷ xs) h = cond-false _ _ _ (digit_black x (All-head (λ (b : ℕ). IsTrue (is_digit b)) x xs h))

-- a number behind a space is trimmed to itself
pub number_trimmed : (n : ℕ) → n < 2 ^ 32 → trim_ows (32 ∷ decimal n) ≡ decimal n
number_trimmed n l =
    let each : AllPass is_digit (decimal n) = All-from_recursion (λ (b : ℕ). IsTrue (is_digit b)) (decimal n) (number_digits n l) in
    trim_ows_space (decimal n) (pass_black (decimal n) each) (pass_black (reverse (decimal n)) (AllPass-reverse is_digit (decimal n) each))

-- its bytes may stand in a field
digit_value : (b : ℕ) → is_digit b ≡ true → is_value_byte b ≡ true
digit_value b h = let p = and_parts (nat_le 48 b) (nat_le b 57) h in grind (arith, nat_tests, p.0, p.1)

pub number_each : (n : ℕ) → n < 2 ^ 32 → Each (decimal n)
number_each n l = go (decimal n) (number_digits n l)
  where
    go : (xs : List ℕ) → Digits xs → Each xs
    go [] h = tt
    go (x ∷ xs) h = (digit_value x h.0, go xs h.1)

-- and it is read as a count
number_is : (n : ℕ) → n < 2 ^ 32 → AreDigits (decimal n)
number_is n l = record {
  some = let s = (decimal_is_IsNumeral n (omega (arith, l))).0.0 in omega (arith, s);
  few = length-decimal-le 15 n (omega arith) (omega (arith, l)) (omega (arith, l));
  are_digits = number_digits n l;
}

pub count_read : (n : ℕ) → n < 2 ^ 32 → count_in_value (decimal n) ≡ Some n
count_read n l = (count_law (decimal n) n).1 (subst (λ (k : ℕ). SpellsList (count_member k ∷ []) (decimal n)) (number_value n l) listed)
  where
    listed : SpellsList (count_member (digits_value 10 (decimal n)) ∷ []) (decimal n)
    listed =
        full [] (count_member (digits_value 10 (decimal n))) (decimal n) (decimal n) []
        (record { spaces = []; front = []; are_spaces = tt; front_spelled = refl; cut = sym (append-nil (decimal n)) })
        (record {
          item_text = decimal n;
          params_text = [];
          params = [];
          item = integer (pos (digits_value 10 (decimal n))) (decimal n) (natural (decimal n) (number_is n l));
          params_spelled = refl;
          params_kept = refl;
          spelled = sym (append-nil (decimal n));
        })
        tt
