-- Numbers in lower-case hexadecimal, digit by digit.
use Rattle.std.proofs.Common.{◌≡◌, ℕ, zero, suc, ◌+◌, ◌*◌, ◌/◌, ◌%◌, ◌^◌, ◌<◌, ◌≤◌, ◌==◌, nat_lt, Bool, true, false, cond, List, [], ◌∷◌, ◌++◌, inl, inr, refl, ap, sym, ◌∙◌, subst, append_assoc, length, length-append, get_or, arith, codes}
use Rattle.std.specs.Fmt.{digits, digits_onto, digit_glyph}
use Rattle.std.specs.List.{AllByRecursion}
use Rattle.std.proofs.lemmas.Bool.{cases_lt}
use Rattle.std.proofs.lemmas.Bool.Decides.{nat_tests}
use Rattle.std.proofs.lemmas.Fmt.{hex_one_digit, digits_is_IsNumeral}
use Rattle.std.proofs.lemmas.List.{get_or_append_left}
use native.Mathlib.Nat.{pow-suc}
use Rattle.braid_fields.specs.Chunks.{IsHexDigit, IsHexadecimal, IsWrittenChunk, chunk, beat}

-- the digit of a number below 16
abbrev pub hex_digit : ℕ → ℕ
hex_digit n = digit_glyph false n

onto_if : (k n : ℕ) (acc : List ℕ) (t : Bool) → n / 16 == 0 ≡ t → digits_onto (suc k) 16 false n acc ≡ cond t (hex_digit (n % 16) ∷ acc) (digits_onto k 16 false (n / 16) (hex_digit (n % 16) ∷ acc))
onto_if k n acc t e = ap (λ (b : Bool). cond b (hex_digit (n % 16) ∷ acc) (digits_onto k 16 false (n / 16) (hex_digit (n % 16) ∷ acc))) e

either_more : (t : Bool) (g : ℕ) (acc xs ys zs : List ℕ) → xs ≡ zs ++ (g ∷ acc) → ys ≡ zs ++ (g ∷ []) → cond t (g ∷ acc) xs ≡ cond t (g ∷ []) ys ++ acc
either_more true g acc xs ys zs p q = refl
either_more false g acc xs ys zs p q = p ∙ sym (append_assoc zs (g ∷ []) acc) ∙ ap (λ (z : List ℕ). z ++ acc) (sym q)

-- what stands behind the digits stands behind them
onto_more : (k n : ℕ) (acc : List ℕ) → digits_onto k 16 false n acc ≡ digits_onto k 16 false n [] ++ acc
onto_more zero n acc = refl
onto_more (suc k) n acc =
    either_more (n / 16 == 0) (hex_digit (n % 16)) acc _ _ (digits_onto k 16 false (n / 16) []) (onto_more k (n / 16) (hex_digit (n % 16) ∷ acc)) (onto_more k (n / 16) (hex_digit (n % 16) ∷ []))

either_same : (t : Bool) (xs ys zs : List ℕ) → (t ≡ false → ys ≡ zs) → cond t xs ys ≡ cond t xs zs
either_same true xs ys zs e = refl
either_same false xs ys zs e = e refl

above_one : (n p : ℕ) → n < 16 ^ 1 → n / 16 == 0 ≡ false → ⊥
above_one n p l e = grind (arith, nat_tests)

one_less : (k n : ℕ) → n < 16 ^ suc (suc k) → n / 16 < 16 ^ suc k
one_less k n l = let p : 16 ^ suc (suc k) ≡ 16 ^ suc k * 16 = pow-suc 16 (suc k) in omega (arith, p, l)

-- one digit more than are needed changes nothing
onto_fewer : (k n : ℕ) (acc : List ℕ) → n < 16 ^ suc k → digits_onto (suc (suc k)) 16 false n acc ≡ digits_onto (suc k) 16 false n acc
onto_fewer zero n acc l = either_same (n / 16 == 0) _ _ _ (λ e. absurd (above_one n 0 l e))
onto_fewer (suc k) n acc l = either_same (n / 16 == 0) _ _ _ (λ e. onto_fewer k (n / 16) (hex_digit (n % 16) ∷ acc) (one_less k n l))

-- the last digit behind the others
pub hex_step : (n : ℕ) → 16 ≤ n → n < 2 ^ 64 → digits 16 false n ≡ digits 16 false (n / 16) ++ (hex_digit (n % 16) ∷ [])
unfolding digits
hex_step n low high =
    onto_if 63 n [] false (grind (arith, nat_tests))
    ∙ onto_more 63 (n / 16) (hex_digit (n % 16) ∷ [])
    ∙ ap (λ (z : List ℕ). z ++ (hex_digit (n % 16) ∷ [])) (sym (onto_fewer 62 (n / 16) [] (omega arith)))

-- the one digit of a number below 16
pub hex_one : (n : ℕ) → n < 16 → digits 16 false n ≡ hex_digit n ∷ []
hex_one n l = hex_one_digit false n l

is_digit : (n : ℕ) → n < 16 → IsHexDigit (hex_digit n)
is_digit n l = go (nat_lt n 10) refl
  where
    go : (t : Bool) → nat_lt n 10 ≡ t → IsHexDigit (cond t (48 + n) (87 + n))
    go true e = grind (arith, nat_tests)
    go false e = grind (arith, nat_tests)

above_zero : (n : ℕ) → 0 < n → n < 16 → 48 < hex_digit n
above_zero n s l = go (nat_lt n 10)
  where
    go : (t : Bool) → 48 < cond t (48 + n) (87 + n)
    go true = omega arith
    go false = omega arith

-- what the digits of a number with at most k of them are
record Digits (k n : ℕ) (ds : List ℕ) : Type 0 where
  some : 0 < length ds
  few : length ds ≤ k
  each : AllByRecursion IsHexDigit ds
  first : 0 < n → 48 < get_or ds 0 0

all_and_last : (ds : List ℕ) (d : ℕ) → AllByRecursion IsHexDigit ds → IsHexDigit d → AllByRecursion IsHexDigit (ds ++ (d ∷ []))
all_and_last [] d a h = (h, tt)
all_and_last (x ∷ ds) d a h = (a.0, all_and_last ds d a.1 h)

digits_one : (k n : ℕ) → n < 16 → Digits (suc k) n (hex_digit n ∷ [])
digits_one k n l = record { some = omega arith; few = omega arith; each = (is_digit n l, tt); first = λ s. above_zero n s l }

digits_more : (k n : ℕ) (ds : List ℕ) → 16 ≤ n → Digits k (n / 16) ds → Digits (suc k) n (ds ++ (hex_digit (n % 16) ∷ []))
digits_more k n ds low d =
    let some = d.some in
    let few = d.few in
    let len = length-append ds (hex_digit (n % 16) ∷ []) in
    record {
      some = omega (arith, len, some);
      few = omega (arith, len, few);
      each = all_and_last ds (hex_digit (n % 16)) d.each (is_digit (n % 16) (omega arith));
      first = λ s. omega (arith, get_or_append_left ds (hex_digit (n % 16) ∷ []) 0 0 some, d.first (omega arith));
    }

digits_are : (k n : ℕ) → n < 16 ^ suc k → n < 2 ^ 64 → Digits (suc k) n (digits 16 false n)
digits_are zero n l h = subst (Digits 1 n) (sym (hex_one n (omega arith))) (digits_one 0 n (omega arith))
digits_are (suc k) n l h = elim (cases_lt n 16) [
  | inl low ↦ subst (Digits (suc (suc k)) n) (sym (hex_one n low)) (digits_one (suc k) n low)
  | inr high ↦ subst (Digits (suc (suc k)) n) (sym (hex_step n high h)) (digits_more (suc k) n (digits 16 false (n / 16)) high (digits_are k (n / 16) (one_less k n l) (omega arith)))
]

shortest_of : (k n : ℕ) (ds : List ℕ) → Digits k n ds → (n ≡ 0 → ds ≡ 48 ∷ []) → (rest : List ℕ) → ds ≡ 48 ∷ rest → rest ≡ []
shortest_of k n ds d z rest e = elim (cases_lt 0 n) [
  | inl some ↦ absurd (omega (arith, d.first some, ap (λ (xs : List ℕ). get_or xs 0 0) e))
  | inr none ↦ let zero_is : ds ≡ 48 ∷ [] = z (omega arith) in cc
]

-- the digits of a number of 64 bits write it in lower-case hexadecimal
pub hexadecimal : (n : ℕ) → n < 2 ^ 64 → IsHexadecimal n (digits 16 false n)
hexadecimal n h =
    let d = digits_are 15 n (omega arith) h in
    record {
      some = d.some;
      few = d.few;
      each = d.each;
      value = (digits_is_IsNumeral 16 false (omega arith) (omega arith) n (omega arith)).1;
      shortest = shortest_of 16 n (digits 16 false n) d (λ e. ap (digits 16 false) e ∙ hex_one 0 (omega arith));
    }

pub written_chunk : (content : List ℕ) → 0 < length content → length content < 2 ^ 64 → IsWrittenChunk content (chunk content)
written_chunk content s h = record { digits = digits 16 false (length content); size = hexadecimal (length content) h; some = s; whole = refl }

pub beat_is : beat ≡ chunk (codes "\r\n")
beat_is = ap (λ (ds : List ℕ). ds ++ codes "\r\n" ++ codes "\r\n" ++ codes "\r\n") (sym (hex_one 2 (omega arith)))
