-- A value that is no range has one fault.
use Rattle.std.proofs.Common.{◌≡◌, ◌==◌, ℕ, zero, suc, ◌+◌, ◌<◌, ◌≤◌, inl, inr, List, [], ◌∷◌, ◌++◌, true, false, refl, sym, ap, subst, ◌∙◌, arith, length, codes}
use Rattle.std.specs.List.{list_all, take_while}
use Rattle.std.specs.Char.{is_ascii_digit}
use Rattle.std.proofs.lemmas.Bool.{cases_lt}
use Rattle.braid_change.specs.RangeForms.{is_space, is_other, starts, IsNumber, IsTooLarge, AfterGap, AfterBracket, AfterStart, AfterColon, AfterEnd, AfterClose, IsDeparture, no_gap, no_bracket, no_start, no_colon, no_end, no_close, more, BeginsTooLarge, IsRangeFault}
use Rattle.braid_change.proofs.OneRange.{starts_is, clash, as_list_all, starts_front, gap_one, bracket_one, start_one, colon_one, end_one, close_one, too_large, unit_taken, no_gap_left}
use Rattle.braid_change.specs.declared.range.RangeFault.{RangeFault}
use Rattle.braid_change.specs.declared.range.RangeFault.TheVariants.{Unit, Form, Number}

-- digits at the front of what is left
record Digits (rest : List ℕ) : Type 0 where
  front : List ℕ
  back : List ℕ
  some : 0 < length front
  pass : list_all is_ascii_digit front ≡ true
  whole : rest ≡ front ++ back

begins : (rest : List ℕ) → Digits rest → starts is_ascii_digit rest ≡ true
begins rest d = starts_front is_ascii_digit d.front d.back rest d.some d.pass d.whole

of_number : (digits rest : List ℕ) (n : ℕ) → IsNumber digits n → Digits (digits ++ rest)
of_number digits rest n is = record { front = digits; back = rest; some = is.some; pass = as_list_all digits is.decimal; whole = refl }

some_large : (digits : List ℕ) → IsTooLarge digits → 0 < length digits
some_large [] is = elim is.large [ inl l ↦ absurd (omega (arith, l)) | inr l ↦ absurd (omega (arith, l)) ]
some_large (d ∷ digits) is = omega arith

of_large : (rest : List ℕ) → BeginsTooLarge rest → Digits rest
of_large rest (digits, after, is, stop, whole) = record { front = digits; back = after; some = some_large digits is; pass = as_list_all digits is.decimal; whole = whole }

-- what a value departs at, by the number of its parts that are there: the gap, the bracket, the start, the colon, the
-- end and the closing bracket
abbrev At : ℕ → List ℕ → List ℕ → Type 0
At zero value rest = (value ≡ codes "text") × (rest ≡ [])
At (suc zero) value rest = AfterGap value rest × (starts is_space rest ≡ false) × (starts (λ b. b == 91) rest ≡ false)
At (suc (suc zero)) value rest = AfterBracket value rest × (starts is_ascii_digit rest ≡ false)
At (suc (suc (suc zero))) value rest = (start : ℕ) × AfterStart value start rest × (starts is_ascii_digit rest ≡ false) × (starts (λ b. b == 58) rest ≡ false)
At (suc (suc (suc (suc zero)))) value rest = (start : ℕ) × AfterColon value start rest × (starts is_ascii_digit rest ≡ false)
At (suc (suc (suc (suc (suc zero))))) value rest = (start : ℕ) × (end : ℕ) × AfterEnd value start end rest × (starts is_ascii_digit rest ≡ false) × (starts (λ b. b == 93) rest ≡ false)
At (suc (suc (suc (suc (suc (suc zero)))))) value rest = (start : ℕ) × (end : ℕ) × AfterClose value start end rest
At (suc (suc (suc (suc (suc (suc (suc n))))))) value rest = ⊥

-- the part with this number is there
abbrev Past : ℕ → List ℕ → Type 0
Past zero value = (rest : List ℕ) × AfterGap value rest
Past (suc zero) value = (rest : List ℕ) × AfterBracket value rest
Past (suc (suc zero)) value = (rest : List ℕ) × AfterBracket value rest × Digits rest
Past (suc (suc (suc zero))) value = (start : ℕ) × (rest : List ℕ) × AfterColon value start rest
Past (suc (suc (suc (suc zero)))) value = (start : ℕ) × (rest : List ℕ) × AfterColon value start rest × Digits rest
Past (suc (suc (suc (suc (suc zero))))) value = (start : ℕ) × (end : ℕ) × (rest : List ℕ) × AfterClose value start end rest
Past (suc (suc (suc (suc (suc (suc n)))))) value = ⊥

-- a value does not depart at a part that is there
not_past : (k : ℕ) (value rest : List ℕ) → At k value rest → Past k value → ⊥
not_past zero value rest at (x, g) = no_gap_left value x at.0 g
not_past (suc zero) value rest (g, s, t) (x, h) = clash (starts (λ b. b == 91) rest) (starts_is (λ b. b == 91) 91 rest x (gap_one value rest (91 ∷ x) g s h refl)) t
not_past (suc (suc zero)) value rest (g, s) (x, h, d) = clash (starts is_ascii_digit rest) (ap (starts is_ascii_digit) (bracket_one value rest x g h) ∙ begins x d) s
not_past (suc (suc (suc zero))) value rest (n, g, s, t) (m, x, h) = clash (starts (λ b. b == 58) rest) (starts_is (λ b. b == 58) 58 rest x (start_one value rest (58 ∷ x) n m g s h refl).1) t
not_past (suc (suc (suc (suc zero)))) value rest (n, g, s) (m, x, h, d) = clash (starts is_ascii_digit rest) (ap (starts is_ascii_digit) (colon_one value rest x n m g h).1 ∙ begins x d) s
not_past (suc (suc (suc (suc (suc zero))))) value rest (n, i, g, s, t) (m, j, x, h) = clash (starts (λ b. b == 93) rest) (starts_is (λ b. b == 93) 93 rest x (end_one value rest (93 ∷ x) n m i j g s h refl).1.1) t
not_past (suc (suc (suc (suc (suc (suc k)))))) value rest at past = absurd past

-- where a part is there, so is the one before it
past_down : (k : ℕ) (value : List ℕ) → Past (suc k) value → Past k value
past_down zero value (x, g) = (91 ∷ x, g)
past_down (suc zero) value (x, g, d) = (x, g)
past_down (suc (suc zero)) value (n, x, (a, is, g)) = (a ++ 58 ∷ x, g, of_number a (58 ∷ x) n is)
past_down (suc (suc (suc zero))) value (n, x, g, d) = (n, x, g)
past_down (suc (suc (suc (suc zero)))) value (n, i, x, (b, is, g)) = (n, b ++ 93 ∷ x, g, of_number b (93 ∷ x) i is)
past_down (suc (suc (suc (suc (suc k))))) value past = absurd past

lower : (k j : ℕ) (value : List ℕ) → j ≤ k → Past k value → Past j value
lower zero j value l past = let e : zero ≡ j = omega arith in subst (λ (m : ℕ). Past m value) e past
lower (suc k) j value l past = elim (cases_lt j (suc k)) [
  | inl below ↦ lower k j value (omega arith) (past_down k value past)
  | inr same ↦ let e : suc k ≡ j = omega arith in subst (λ (m : ℕ). Past m value) e past
]

-- the part before the one that is missing is there
at_past : (k : ℕ) (value rest : List ℕ) → At (suc k) value rest → Past k value
at_past zero value rest (g, s, t) = (rest, g)
at_past (suc zero) value rest (g, s) = (rest, g)
at_past (suc (suc zero)) value rest (n, (a, is, g), s, t) = (a ++ rest, g, of_number a rest n is)
at_past (suc (suc (suc zero))) value rest (n, g, s) = (n, rest, g)
at_past (suc (suc (suc (suc zero)))) value rest (n, i, (b, is, g), s, t) = (n, b ++ rest, g, of_number b rest i is)
at_past (suc (suc (suc (suc (suc zero))))) value rest (n, i, g) = (n, i, rest, g)
at_past (suc (suc (suc (suc (suc (suc k)))))) value rest at = absurd at

apart : (j k : ℕ) (value x y : List ℕ) → j < k → At j value x → At k value y → ⊥
apart j zero value x y l a b = omega arith
apart j (suc k) value x y l a b = not_past j value x a (lower k j value (omega arith) (at_past k value y b))

at_one : (k : ℕ) (value x y : List ℕ) → At k value x → At k value y → x ≡ y
at_one zero value x y a b = a.1 ∙ sym b.1
at_one (suc zero) value x y (g, s, t) (h, u, v) = gap_one value x y g s h u
at_one (suc (suc zero)) value x y (g, s) (h, t) = bracket_one value x y g h
at_one (suc (suc (suc zero))) value x y (n, g, s, t) (m, h, u, v) = (start_one value x y n m g s h u).1
at_one (suc (suc (suc (suc zero)))) value x y (n, g, s) (m, h, t) = (colon_one value x y n m g h).1
at_one (suc (suc (suc (suc (suc zero))))) value x y (n, i, g, s, t) (m, j, h, u, v) = (end_one value x y n m i j g s h u).1.1
at_one (suc (suc (suc (suc (suc (suc zero)))))) value x y (n, i, g) (m, j, h) = (close_one value x y n m i j g h).1.1
at_one (suc (suc (suc (suc (suc (suc (suc k))))))) value x y a b = absurd a

-- a departure is at one part
record Stage (value rest : List ℕ) : Type 0 where
  number : ℕ
  at : At number value rest

stage : (value rest : List ℕ) → IsDeparture value rest → Stage value rest
stage value rest (no_gap e f) = record { number = 0; at = (e, f) }
stage value rest (no_bracket g s t) = record { number = 1; at = (g, s, t) }
stage value rest (no_start g s) = record { number = 2; at = (g, s) }
stage value rest (no_colon n g s t) = record { number = 3; at = (n, g, s, t) }
stage value rest (no_end n g s) = record { number = 4; at = (n, g, s) }
stage value rest (no_close n i g s t) = record { number = 5; at = (n, i, g, s, t) }
stage value rest (more n i g some) = record { number = 6; at = (n, i, g) }

one_stage : (value x y : List ℕ) → Stage value x → Stage value y → x ≡ y
one_stage value x y a b = elim (cases_lt a.number b.number) [
  | inl below ↦ absurd (apart a.number b.number value x y below a.at b.at)
  | inr up ↦ elim (cases_lt b.number a.number) [
    | inl below ↦ absurd (apart b.number a.number value y x below b.at a.at)
    | inr down ↦ let e : b.number ≡ a.number = omega (arith, up, down) in at_one a.number value x y a.at (subst (λ (k : ℕ). At k value y) e b.at)
  ]
]

-- a value with a start that is too large has no departure
large_start : (k : ℕ) (value x rest : List ℕ) → AfterBracket value rest → BeginsTooLarge rest → At k value x → ⊥
large_start zero value x rest b l at = not_past 0 value x at (lower 2 0 value (omega arith) (rest, b, of_large rest l))
large_start (suc zero) value x rest b l at = not_past 1 value x at (lower 2 1 value (omega arith) (rest, b, of_large rest l))
large_start (suc (suc zero)) value x rest b l at = not_past 2 value x at (rest, b, of_large rest l)
large_start (suc (suc (suc zero))) value x rest b l (n, (a, is, g), s, t) = too_large rest a x n is s (bracket_one value rest (a ++ x) b g) l
large_start (suc (suc (suc (suc k)))) value x rest b l at = begun (lower (suc (suc (suc k))) 3 value (omega arith) (at_past (suc (suc (suc k))) value x at))
  where
    begun : Past 3 value → ⊥
    begun (n, y, (a, is, g)) = too_large rest a (58 ∷ y) n is refl (bracket_one value rest (a ++ 58 ∷ y) b g) l

-- a value with an end that is too large has none either
large_end : (k : ℕ) (value x rest : List ℕ) (n : ℕ) → AfterColon value n rest → BeginsTooLarge rest → At k value x → ⊥
large_end zero value x rest n b l at = not_past 0 value x at (lower 4 0 value (omega arith) (n, rest, b, of_large rest l))
large_end (suc zero) value x rest n b l at = not_past 1 value x at (lower 4 1 value (omega arith) (n, rest, b, of_large rest l))
large_end (suc (suc zero)) value x rest n b l at = not_past 2 value x at (lower 4 2 value (omega arith) (n, rest, b, of_large rest l))
large_end (suc (suc (suc zero))) value x rest n b l at = not_past 3 value x at (lower 4 3 value (omega arith) (n, rest, b, of_large rest l))
large_end (suc (suc (suc (suc zero)))) value x rest n b l at = not_past 4 value x at (n, rest, b, of_large rest l)
large_end (suc (suc (suc (suc (suc zero))))) value x rest n b l (m, i, (d, is, g), s, t) = too_large rest d x i is s (colon_one value rest (d ++ x) n m b g).1 l
large_end (suc (suc (suc (suc (suc (suc zero)))))) value x rest n b l (m, i, (d, is, g)) = too_large rest d (93 ∷ x) i is refl (colon_one value rest (d ++ 93 ∷ x) n m b g).1 l
large_end (suc (suc (suc (suc (suc (suc (suc k))))))) value x rest n b l at = absurd at

-- a value that departs later than at its unit has the unit
unit_at : (k : ℕ) (value x : List ℕ) → At k value x → take_while is_other value ≡ codes "text"
unit_at zero value x at = ap (take_while is_other) at.0
unit_at (suc k) value x at = let p = lower k 0 value (omega arith) (at_past k value x at) in unit_taken value p.0 p.1

unit_large : (value : List ℕ) → IsRangeFault value Number → take_while is_other value ≡ codes "text"
unit_large value (inl (rest, b, l)) = unit_taken value (91 ∷ rest) b
unit_large value (inr (n, rest, b, l)) = let p = lower 3 0 value (omega arith) (n, rest, b) in unit_taken value p.0 p.1

large_departs : (value : List ℕ) (x : List ℕ) → IsRangeFault value Number → Stage value x → ⊥
large_departs value x (inl (rest, b, l)) s = large_start s.number value x rest b l s.at
large_departs value x (inr (n, rest, b, l)) s = large_end s.number value x rest n b l s.at

same_place : (a b : ℕ) (value x y : List ℕ) → x ≡ y → a + length x ≡ length value → b + length y ≡ length value → a ≡ b
same_place a b value x y e p q = let l = ap length e in omega arith

pub range_fault_one : (value : List ℕ) (f g : RangeFault) → IsRangeFault value f → IsRangeFault value g → f ≡ g
range_fault_one value Unit Unit h k = refl
range_fault_one value Unit (Form b) h (y, d, q) = let s = stage value y d in absurd (h (unit_at s.number value y s.at))
range_fault_one value Unit Number h k = absurd (h (unit_large value k))
range_fault_one value (Form a) Unit (x, d, p) k = let s = stage value x d in absurd (k (unit_at s.number value x s.at))
range_fault_one value (Form a) (Form b) (x, d, p) (y, c, q) = ap Form (same_place a b value x y (one_stage value x y (stage value x d) (stage value y c)) p q)
range_fault_one value (Form a) Number (x, d, p) k = absurd (large_departs value x k (stage value x d))
range_fault_one value Number Unit h k = absurd (k (unit_large value h))
range_fault_one value Number (Form b) h (y, d, q) = absurd (large_departs value y h (stage value y d))
range_fault_one value Number Number h k = refl
