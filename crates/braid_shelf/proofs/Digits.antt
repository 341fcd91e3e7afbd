-- The number that at most fifteen digits write.
use Rattle.std.proofs.Common.{◌≡◌, ℕ, ◌+◌, ◌*◌, ◌-◌, ◌^◌, ◌<◌, ◌≤◌, List, length, take, get_or, arith, rules}
use Rattle.std.specs.Str.Parse.{digits_value}
use Rattle.std.specs.Int.{IsInRange}
use Rattle.std.proofs.lemmas.Str.Parse.{IsNumeralModel, IsDigitsTest, numerals_by_value, digits_value_short, digits_value-take-le, digit_at}
use Rattle.std.proofs.lemmas.Str.{digit_value_digit}
use Rattle.std.proofs.lemmas.Int.Digits.{digits_value_more}
use Rattle.braid_shelf.specs.ByteClasses.{Are, is_digit}

are_digits : IsDigitsTest (Are is_digit)
are_digits = search rules

own : IsNumeralModel (Are is_digit) (digits_value 10)
own = numerals_by_value _ are_digits

pub small : (digits : List ℕ) → Are is_digit digits → length digits ≤ 15 → digits_value 10 digits < 10 ^ 15
small digits h few = digits_value_short own digits 15 h few

at_digit : (digits : List ℕ) (i : ℕ) → Are is_digit digits → i < length digits → IsInRange 48 57 (get_or digits i 0)
at_digit digits i h lt = digit_at digits i (own.to digits h) lt

pub next_digit : (digits : List ℕ) (i number : ℕ) → Are is_digit digits → i < length digits → number ≡ digits_value 10 (take i digits) → number * 10 + (get_or digits i 0 - 48) ≡ digits_value 10 (take (i + 1) digits)
next_digit digits i number h lt e =
    let d = digit_value_digit (get_or digits i 0) (at_digit digits i h lt) in
    let m = digits_value_more 10 digits i lt in
    omega arith

pub next_small : (digits : List ℕ) (i number : ℕ) → Are is_digit digits → length digits ≤ 15 → i < length digits → number ≡ digits_value 10 (take i digits) → number * 10 + (get_or digits i 0 - 48) < 10 ^ 15
next_small digits i number h few lt e =
    let n = next_digit digits i number h lt e in
    let t = digits_value-take-le 10 digits (i + 1) (omega arith) in
    let s = small digits h few in
    omega arith
