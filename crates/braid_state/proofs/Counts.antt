-- Numbers in decimal without leading zeros.
use Rattle.std.proofs.Common.{◌≡◌, ℕ, zero, suc, ◌<◌, ◌≤◌, ◌^◌, min, decimal, List, length, get_or, refl, sym, ap, ◌∙◌, arith}
use Rattle.std.specs.Str.Parse.{AllDigits, digits_value}
use Rattle.std.proofs.lemmas.Fmt.{decimal-digits_value, first_decimal, decimal_digit, digits_decimal, digits_value-decimal, decimal_nonempty}
use Rattle.std.proofs.lemmas.Str.Parse.{IsNumeralModel, numerals_by_value, tells_digits}
use Rattle.braid_state.specs.Heads.{IsCount, count_of}

pub own : IsNumeralModel (AllDigits 10) (digits_value 10)
own = numerals_by_value _ tells_digits

-- digits of a number that is not above the most updates are its decimal
pub count_is : (digits : List ℕ) (n : ℕ) → IsCount digits → n ≡ min (count_of digits) 524_289 → n ≤ 524_288 → (count_of digits ≡ n) × (digits ≡ decimal n)
count_is digits n h e l =
    let v : count_of digits ≡ n = omega arith in
    let w : decimal (count_of digits) ≡ digits = decimal-digits_value own digits h.are_digits h.some h.leads (omega arith) in
    (v, sym w ∙ ap decimal v)

-- the decimal of a number is a count, and of this number
pub decimal_count : (n : ℕ) → n < 2 ^ 64 → IsCount (decimal n) × (count_of (decimal n) ≡ n)
decimal_count n l = (record { some = decimal_nonempty n l; are_digits = digits_decimal own n l; leads = leads }, digits_value-decimal own n l)
  where
    leads : get_or (decimal n) 0 0 ≡ 48 → length (decimal n) ≡ 1
    leads e = go n refl
      where
        go : (m : ℕ) → n ≡ m → length (decimal n) ≡ 1
        go zero z = ap length (decimal_digit n (omega arith))
        go (suc m) z = absurd (omega (arith, first_decimal n (omega arith) l, e))
