-- A value has one reading as a range, and none where it has a fault.
use Rattle.std.proofs.Common.{◌≡◌, ◌==◌, ℕ, ◌+◌, ◌<◌, ◌^◌, inl, inr, List, [], ◌∷◌, ◌++◌, Bool, true, false, not, cond, ◌&&◌, refl, sym, ap, subst, ◌∙◌, arith, take, length, codes, decimal, append_assoc}
use Rattle.std.proofs.lemmas.List.{append_cancel_left}
use Rattle.std.proofs.lemmas.Bool.{and_parts}
use Rattle.std.proofs.lemmas.Str.Parse.{IsNumeralModel, numerals_by_value, tells_all_ascii_digits}
use Rattle.std.proofs.lemmas.Fmt.{digits_decimal, digits_value-decimal, length-decimal-le, decimal_is_IsNumeral}
use Rattle.std.specs.List.{prefix_len, list_all, take_while}
use Rattle.std.specs.Char.{is_ascii_digit}
use Rattle.std.specs.Str.{all_ascii_digits}
use Rattle.std.specs.Str.Parse.{digits_value}
use Rattle.braid_change.specs.RangeForms.{is_space, is_other, starts, IsNumber, IsTooLarge, AfterGap, AfterBracket, AfterStart, AfterColon, AfterEnd, AfterClose, IsRange, IsDeparture, no_gap, no_bracket, no_start, no_colon, no_end, no_close, more, BeginsTooLarge, IsRangeFault}
use Rattle.braid_change.specs.Spellings.{range_text}
use Rattle.braid_change.specs.declared.range.RangeFault.{RangeFault}
use Rattle.braid_change.specs.declared.range.RangeFault.TheVariants.{Unit, Form, Number}

pub starts_is : (p : ℕ → Bool) (c : ℕ) (x y : List ℕ) → x ≡ c ∷ y → starts p x ≡ p c
starts_is p c x y e = ap (starts p) e

pub clash : (b : Bool) → b ≡ true → b ≡ false → ⊥
clash b h k = cc

heads : (c d : ℕ) (x y : List ℕ) → c ∷ x ≡ d ∷ y → c ≡ d
heads c d x y e = cc

tails : (c d : ℕ) (x y : List ℕ) → c ∷ x ≡ d ∷ y → x ≡ y
tails c d x y e = cc

-- a list is split in one way where its front passes and what follows does not
run_one : (p : ℕ → Bool) (a b x y : List ℕ) → list_all p a ≡ true → starts p x ≡ false → list_all p b ≡ true → starts p y ≡ false → a ++ x ≡ b ++ y → (a ≡ b) × (x ≡ y)
run_one p [] [] x y h s k t e = (refl, e)
run_one p [] (d ∷ b) x y h s k t e = absurd (clash (p d) (and_parts (p d) (list_all p b) k).0 (sym (starts_is p d x (b ++ y) e) ∙ s))
run_one p (c ∷ a) [] x y h s k t e = absurd (clash (p c) (and_parts (p c) (list_all p a) h).0 (sym (starts_is p c y (a ++ x) (sym e)) ∙ t))
run_one p (c ∷ a) (d ∷ b) x y h s k t e =
    let q = run_one p a b x y (and_parts (p c) (list_all p a) h).1 s (and_parts (p d) (list_all p b) k).1 t (tails c d (a ++ x) (b ++ y) e) in
    let n = heads c d (a ++ x) (b ++ y) e in
    ((λ i. n i ∷ q.0 i), q.1)

pub as_list_all : (ds : List ℕ) → all_ascii_digits ds ≡ true → list_all is_ascii_digit ds ≡ true
as_list_all [] h = refl
as_list_all (d ∷ ds) h = let q = and_parts (is_ascii_digit d) (all_ascii_digits ds) h in ap (λ b. b && list_all is_ascii_digit ds) q.0 ∙ as_list_all ds q.1

-- a list begins with a byte of its front
pub starts_front : (p : ℕ → Bool) (a x y : List ℕ) → 0 < length a → list_all p a ≡ true → y ≡ a ++ x → starts p y ≡ true
starts_front p [] x y l h e = absurd (omega arith)
starts_front p (c ∷ a) x y l h e = starts_is p c y (a ++ x) e ∙ (and_parts (p c) (list_all p a) h).0

pub gap_one : (value x y : List ℕ) → AfterGap value x → starts is_space x ≡ false → AfterGap value y → starts is_space y ≡ false → x ≡ y
gap_one value x y (g, is, e) s (h, also, f) t = (run_one is_space g h x y is.spaces s also.spaces t (append_cancel_left (codes "text") (g ++ x) (h ++ y) (sym e ∙ f))).1

pub bracket_one : (value x y : List ℕ) → AfterBracket value x → AfterBracket value y → x ≡ y
bracket_one value x y g h = tails 91 91 x y (gap_one value (91 ∷ x) (91 ∷ y) g refl h refl)

number_one : (a b x y : List ℕ) (m n : ℕ) → IsNumber a m → IsNumber b n → starts is_ascii_digit x ≡ false → starts is_ascii_digit y ≡ false → a ++ x ≡ b ++ y → (m ≡ n) × (x ≡ y)
number_one a b x y m n h k s t e =
    let q = run_one is_ascii_digit a b x y (as_list_all a h.decimal) s (as_list_all b k.decimal) t e in
    (h.value ∙ ap (digits_value 10) q.0 ∙ sym k.value, q.1)

pub start_one : (value x y : List ℕ) (m n : ℕ) → AfterStart value m x → starts is_ascii_digit x ≡ false → AfterStart value n y → starts is_ascii_digit y ≡ false → (m ≡ n) × (x ≡ y)
start_one value x y m n (a, h, g) s (b, k, f) t = number_one a b x y m n h k s t (bracket_one value (a ++ x) (b ++ y) g f)

pub colon_one : (value x y : List ℕ) (m n : ℕ) → AfterColon value m x → AfterColon value n y → (m ≡ n) × (x ≡ y)
colon_one value x y m n g h = let q = start_one value (58 ∷ x) (58 ∷ y) m n g refl h refl in (q.0, tails 58 58 x y q.1)

pub end_one : (value x y : List ℕ) (m n i j : ℕ) → AfterEnd value m i x → starts is_ascii_digit x ≡ false → AfterEnd value n j y → starts is_ascii_digit y ≡ false → (m ≡ n) × ((i ≡ j) × (x ≡ y))
end_one value x y m n i j (a, h, g) s (b, k, f) t =
    let q = colon_one value (a ++ x) (b ++ y) m n g f in
    (q.0, number_one a b x y i j h k s t q.1)

pub close_one : (value x y : List ℕ) (m n i j : ℕ) → AfterClose value m i x → AfterClose value n j y → (m ≡ n) × ((i ≡ j) × (x ≡ y))
close_one value x y m n i j g h = let q = end_one value (93 ∷ x) (93 ∷ y) m n i j g refl h refl in (q.0, (q.1.0, tails 93 93 x y q.1.1))

pub range_one : (value : List ℕ) (m n i j : ℕ) → IsRange value m i → IsRange value n j → (m ≡ n) × (i ≡ j)
range_one value m n i j g h = let q = close_one value [] [] m n i j g h in (q.0, q.1.0)

-- a number is not too large
fits : (a : List ℕ) (n : ℕ) → IsNumber a n → IsTooLarge a → ⊥
fits a n h k = elim k.large [ inl l ↦ absurd (let s = h.short in omega (arith, l, s)) | inr l ↦ absurd (let v = h.value in let s = h.small in omega (arith, l, v, s)) ]

-- what a range is made of, from the left
record Whole (value : List ℕ) (m i : ℕ) : Type 0 where
  first : List ℕ
  second : List ℕ
  start : IsNumber first m
  end : IsNumber second i
  bracket : AfterBracket value (first ++ 58 ∷ (second ++ 93 ∷ []))

whole : (value : List ℕ) (m i : ℕ) → IsRange value m i → Whole value m i
whole value m i (b, k, (a, h, g)) = record { first = a; second = b; start = h; end = k; bracket = g }

colon_of : (value : List ℕ) (m i : ℕ) (w : Whole value m i) → AfterColon value m (w.second ++ 93 ∷ [])
colon_of value m i w = (w.first, w.start, w.bracket)

end_of : (value : List ℕ) (m i : ℕ) (w : Whole value m i) → AfterEnd value m i (93 ∷ [])
end_of value m i w = (w.second, w.end, colon_of value m i w)

pub too_large : (rest a x : List ℕ) (n : ℕ) → IsNumber a n → starts is_ascii_digit x ≡ false → rest ≡ a ++ x → BeginsTooLarge rest → ⊥
too_large rest a x n h s e (d, after, k, t, f) =
    let q = run_one is_ascii_digit a d x after (as_list_all a h.decimal) s (as_list_all d k.decimal) t (sym e ∙ f) in
    fits a n h (subst IsTooLarge (sym q.0) k)

pub unit_taken : (value : List ℕ) → (x : List ℕ) → AfterGap value x → take_while is_other value ≡ codes "text"
unit_taken value x ([], is, e) = absurd (omega (arith, is.some))
unit_taken value x (c ∷ g, is, e) =
    let t = (and_parts (is_space c) (list_all is_space g) is.spaces).0 in
    let n : prefix_len is_other (codes "text" ++ (c ∷ g ++ x)) ≡ 4 = ap (λ b. 1 + (1 + (1 + (1 + cond (not b) (1 + prefix_len is_other (g ++ x)) 0)))) t in
    ap (take_while is_other) e ∙ ap (λ (k : ℕ). take k (codes "text" ++ (c ∷ g ++ x))) n

pub no_gap_left : (value x : List ℕ) → value ≡ codes "text" → AfterGap value x → ⊥
no_gap_left value x e ([], is, h) = absurd (omega (arith, is.some))
no_gap_left value x e (c ∷ g, is, h) = nothing c (g ++ x) (append_cancel_left (codes "text") [] (c ∷ g ++ x) (sym e ∙ h))
  where
    nothing : (c : ℕ) (z : List ℕ) → [] ≡ c ∷ z → ⊥
    nothing c z e = cc

departs : (value rest : List ℕ) (m i : ℕ) → Whole value m i → IsDeparture value rest → ⊥
departs value rest m i w (no_gap e f) = no_gap_left value _ e w.bracket
departs value rest m i w (no_bracket g s t) = clash (starts (λ b. b == 91) rest) (starts_is (λ b. b == 91) 91 rest _ (gap_one value rest (91 ∷ (w.first ++ 58 ∷ (w.second ++ 93 ∷ []))) g s w.bracket refl)) t
departs value rest m i w (no_start g s) = clash (starts is_ascii_digit rest) (starts_front is_ascii_digit w.first (58 ∷ (w.second ++ 93 ∷ [])) rest w.start.some (as_list_all w.first w.start.decimal) (bracket_one value rest _ g w.bracket)) s
departs value rest m i w (no_colon n g s t) = clash (starts (λ b. b == 58) rest) (starts_is (λ b. b == 58) 58 rest _ (start_one value rest (58 ∷ (w.second ++ 93 ∷ [])) n m g s (colon_of value m i w) refl).1) t
departs value rest m i w (no_end n g s) = clash (starts is_ascii_digit rest) (starts_front is_ascii_digit w.second (93 ∷ []) rest w.end.some (as_list_all w.second w.end.decimal) (colon_one value rest (w.second ++ 93 ∷ []) n m g (colon_of value m i w)).1) s
departs value rest m i w (no_close n j g s t) = clash (starts (λ b. b == 93) rest) (starts_is (λ b. b == 93) 93 rest [] (end_one value rest (93 ∷ []) n m j i g s (end_of value m i w) refl).1.1) t
departs value rest m i w (more n j g some) = some (close_one value rest [] n m j i g (end_of value m i w)).1.1

pub range_faultless : (value : List ℕ) (m i : ℕ) (fault : RangeFault) → IsRange value m i → IsRangeFault value fault → ⊥
range_faultless value m i Unit g h = h (unit_taken value _ (whole value m i g).bracket)
range_faultless value m i (Form at) g (rest, d, n) = departs value rest m i (whole value m i g) d
range_faultless value m i Number g (inl (rest, b, l)) = let w = whole value m i g in too_large rest w.first (58 ∷ (w.second ++ 93 ∷ [])) m w.start refl (bracket_one value rest _ b w.bracket) l
range_faultless value m i Number g (inr (n, rest, b, l)) = let w = whole value m i g in too_large rest w.second (93 ∷ []) i w.end refl (colon_one value rest (w.second ++ 93 ∷ []) n m b (colon_of value m i w)).1 l

own : IsNumeralModel (λ ds. all_ascii_digits ds ≡ true) (digits_value 10)
own = numerals_by_value _ tells_all_ascii_digits

written : (n : ℕ) → n < 2 ^ 32 → IsNumber (decimal n) n
written n small = record {
  some = (decimal_is_IsNumeral n (omega (arith, small))).0.0;
  short = length-decimal-le 10 n (omega arith) (omega (arith, small)) (omega (arith, small));
  decimal = digits_decimal own n (omega (arith, small));
  value = sym (digits_value-decimal own n (omega (arith, small)));
  small = small;
}

-- a range that is spelled is that range
pub spelled_range : (m i : ℕ) → m < 2 ^ 32 → i < 2 ^ 32 → IsRange (range_text m i) m i
spelled_range m i h k = (decimal i, written i k, (decimal m, written m h, (codes " ", record { some = omega arith; spaces = refl }, flat)))
  where
    flat : range_text m i ≡ codes "text" ++ (codes " " ++ 91 ∷ (decimal m ++ 58 ∷ (decimal i ++ 93 ∷ [])))
    flat = simp append_assoc
