use Rattle.std.proofs.Common.{◌≡◌, ℕ, ◌+◌, ◌*◌, ◌-◌, ◌<◌, ◌≤◌, min, List, length, take, get_or, arith, inl, inr}
use Rattle.std.specs.Str.Parse.{digits_value}
use Rattle.std.specs.Char.{IsNotAsciiDigit}
use Rattle.std.proofs.lemmas.Str.{digit_value_digit}
use Rattle.std.proofs.lemmas.Str.Parse.{digit_at}
use Rattle.std.proofs.lemmas.Int.Digits.{digits_more, digits_value_more}
use Rattle.braid_state.specs.Heads.{IsCount}
use Rattle.braid_state.proofs.count.read_count.Goals as goal

no_digit : (digits : List ℕ) (i : ℕ) → i < length digits → IsNotAsciiDigit (get_or digits i 0) → IsCount digits → ⊥
no_digit digits i l n h = let r = digit_at digits i h.are_digits l in elim n [ inl a ↦ omega (arith, a, r.0) | inr a ↦ omega (arith, a, r.1) ]

-- a number is read up to a limit digit by digit
next_count : (digits : List ℕ) (i n m d : ℕ) → i < length digits → n ≡ min (digits_value 10 (take i digits)) 524_289 → 48 ≤ get_or digits i 0 → get_or digits i 0 ≤ 57 → d ≡ get_or digits i 0 - 48
    → m ≡ min (n * 10 + d) 524_289 → m ≡ min (digits_value 10 (take (i + 1) digits)) 524_289
next_count digits i n m d l e low high f g = omega (arith, digits_value_more 10 digits i l, digit_value_digit (get_or digits i 0) (low, high))

pub returns-then-not-is_ascii_digit : goal.returns-then-not-is_ascii_digit
returns-then-not-is_ascii_digit c = record { found = no_digit c.args.digits.now c.loop-digit.digit-index c.loop-digit-test.true c.if-not-is_ascii_digit.ensures.cases }

pub loop-digit-preserved : goal.loop-digit-preserved
loop-digit-preserved c =
    let h = c.if-not-is_ascii_digit.ensures in
    record {
      are_digits = digits_more 10 c.args.digits.now c.loop-digit.digit-index c.loop-digit-test.true c.loop-digit.invariant.are_digits h.bound;
      counted = next_count c.args.digits.now c.loop-digit.digit-index c.loop-digit.count c.min-count.result c.from.result c.loop-digit-test.true c.loop-digit.invariant.counted h.cases.0 h.cases.1 c.from.ensures c.min-count.ensures;
    }
