-- Which classes of bytes are apart, and which within another.
use Rattle.std.proofs.Common.{◌≡◌, ℕ, ◌<◌, ◌≤◌, Bool, true, false, ◌||◌, ◌&&◌, leb, List, [], ◌∷◌, ◌++◌, length, lit<, ℤ, refl, ap, eqb, arith, inl, inr}
use Rattle.std.proofs.lemmas.Bool.{ne_eqb, eqb-true, leb-true, and_parts, or_cases, or_left, or_from, or_parts, and_right, lt-leb}
use Rattle.braid_shelf.specs.declared.item.Item.{Item}
use Rattle.braid_shelf.specs.Lists.{AreDigits, SpellsInteger, natural, signed, SpellsItem, string, token, integer, not_true, is_true}
use Rattle.braid_shelf.specs.Reading.{front_of}
use Rattle.braid_shelf.proofs.Passing.{front_passes, yes_front}
use Rattle.braid_shelf.specs.ByteClasses.{Are, IsWord, begins, is_digit, is_lower, is_letter, begins_token, is_in_token, begins_key, is_in_key, is_space, is_blank}

pub digit_range : (b : ℕ) → is_digit b ≡ true → (48 ≤ b) × (b ≤ 57)
digit_range b h = let p = and_parts (leb 48 b) (leb b 57) h in (leb-true 48 b p.0, leb-true b 57 p.1)

lower_range : (b : ℕ) → is_lower b ≡ true → (97 ≤ b) × (b ≤ 122)
lower_range b h = let p = and_parts (leb 97 b) (leb b 122) h in (leb-true 97 b p.0, leb-true b 122 p.1)

letter_least : (b : ℕ) → is_letter b ≡ true → 65 ≤ b
letter_least b h = elim (or_cases (is_lower b) (leb 65 b && leb b 90) h) [
  | inl e ↦ let r = lower_range b e in omega arith
  | inr e ↦ leb-true 65 b (and_parts (leb 65 b) (leb b 90) e).0
]

no_digit_above : (b : ℕ) → 57 < b → is_digit b ≡ false
no_digit_above b h = and_right (leb 48 b) (leb b 57) (lt-leb b 57 h)

-- what begins a Token begins no other item
pub token_apart : (b : ℕ) → begins_token b ≡ true → (eqb b 34 ≡ false) × ((eqb b 45 || is_digit b) ≡ false)
token_apart b h = elim (or_cases (is_letter b) (eqb b 42) h) [
  | inl e ↦ let r = letter_least b e in (ne_eqb b 34 (λ x. omega (arith, x)), or_from (eqb b 45) (is_digit b) (ne_eqb b 45 (λ x. omega (arith, x))) (no_digit_above b (omega arith)))
  | inr e ↦ rw (eqb-true b 42 e) (refl, refl)
]

pub digit_apart : (b : ℕ) → is_digit b ≡ true → (eqb b 34 ≡ false) × (eqb b 45 ≡ false)
digit_apart b h = let r = digit_range b h in (ne_eqb b 34 (λ x. omega (arith, x)), ne_eqb b 45 (λ x. omega (arith, x)))

letter_in_token : (b : ℕ) → is_letter b ≡ true → is_in_token b ≡ true
letter_in_token b h = or_left (is_letter b || is_digit b) _ (or_left (is_letter b) (is_digit b) h)

pub token_goes_on : (b : ℕ) → begins_token b ≡ true → is_in_token b ≡ true
token_goes_on b h = elim (or_cases (is_letter b) (eqb b 42) h) [
  | inl e ↦ letter_in_token b e
  | inr e ↦ rw (eqb-true b 42 e) refl
]

pub key_goes_on : (b : ℕ) → begins_key b ≡ true → is_in_key b ≡ true
key_goes_on b h = elim (or_cases (is_lower b) (eqb b 42) h) [
  | inl e ↦ or_left (is_lower b || is_digit b) _ (or_left (is_lower b) (is_digit b) e)
  | inr e ↦ rw (eqb-true b 42 e) refl
]

-- a word is of bytes that it goes on with
pub word_goes_on : (first more : ℕ → Bool) → ((b : ℕ) → first b ≡ true → more b ≡ true) → (word : List ℕ) → IsWord first more word → Are more word
word_goes_on first more within [] h = absurd h
word_goes_on first more within (b ∷ word) h = (within b h.0, h.1)

pub word_begins : (first more : ℕ → Bool) (word rest : List ℕ) → IsWord first more word → begins first (word ++ rest) ≡ true
word_begins first more [] rest h = absurd h
word_begins first more (b ∷ word) rest h = h.0

pub begins_or : (f g : ℕ → Bool) (bytes : List ℕ) → begins f bytes ≡ false → begins g bytes ≡ false → begins (λ b. f b || g b) bytes ≡ false
begins_or f g [] x y = refl
begins_or f g (b ∷ bytes) x y = or_from (f b) (g b) x y

pub begins_both : (f g : ℕ → Bool) (bytes : List ℕ) → begins (λ b. f b || g b) bytes ≡ false → (begins f bytes ≡ false) × (begins g bytes ≡ false)
begins_both f g [] x = (refl, refl)
begins_both f g (b ∷ bytes) x = or_parts (f b) (g b) x

pub begins_eq : (wanted : ℕ) (bytes : List ℕ) → begins (λ b. eqb b wanted) bytes ≡ true → (rest : List ℕ) × (bytes ≡ wanted ∷ rest)
begins_eq wanted [] e = absurd cc
begins_eq wanted (b ∷ rest) e = (rest, ap (λ x. x ∷ rest) (eqb-true b wanted e))

-- the front of bytes that begin as a word does is a word
pub front_word : (first more : ℕ → Bool) → ((b : ℕ) → first b ≡ true → more b ≡ true) → (b : ℕ) (bytes : List ℕ) → first b ≡ true → IsWord first more (front_of more (b ∷ bytes))
front_word first more within b bytes h = rw (yes_front more b bytes (within b h)) (h, front_passes more bytes)

-- no key begins with a space
pub no_space_key : (key rest : List ℕ) → IsWord begins_key is_in_key key → begins is_space (key ++ rest) ≡ false
no_space_key [] rest h = absurd h
no_space_key (b ∷ key) rest h = elim (or_cases (is_lower b) (eqb b 42) h.0) [
  | inl e ↦ let r = lower_range b e in ne_eqb b 32 (λ x. omega (arith, x))
  | inr e ↦ rw (eqb-true b 42 e) refl
]

-- no item begins with a space or a tab
digit_no_blank : (b : ℕ) → is_digit b ≡ true → is_blank b ≡ false
digit_no_blank b h = let r = digit_range b h in or_from (eqb b 32) (eqb b 9) (ne_eqb b 32 (λ x. omega (arith, x))) (ne_eqb b 9 (λ x. omega (arith, x)))

token_no_blank : (b : ℕ) → begins_token b ≡ true → is_blank b ≡ false
token_no_blank b h = elim (or_cases (is_letter b) (eqb b 42) h) [
  | inl e ↦ let r = letter_least b e in or_from (eqb b 32) (eqb b 9) (ne_eqb b 32 (λ x. omega (arith, x))) (ne_eqb b 9 (λ x. omega (arith, x)))
  | inr e ↦ rw (eqb-true b 42 e) refl
]

digits_no_blank : (digits rest : List ℕ) → AreDigits digits → begins is_blank (digits ++ rest) ≡ false
digits_no_blank [] rest d = absurd (let s = d.some in omega arith)
digits_no_blank (b ∷ digits) rest d = digit_no_blank b d.are_digits.0

word_no_blank : (word rest : List ℕ) → IsWord begins_token is_in_token word → begins is_blank (word ++ rest) ≡ false
word_no_blank [] rest h = absurd h
word_no_blank (b ∷ word) rest h = token_no_blank b h.0

integer_no_blank : (number : ℤ) (text rest : List ℕ) → SpellsInteger number text → begins is_blank (text ++ rest) ≡ false
integer_no_blank number text rest (natural digits d) = digits_no_blank digits rest d
integer_no_blank number text rest (signed digits d) = refl

pub item_no_blank : (item : Item) (text rest : List ℕ) → SpellsItem item text → begins is_blank (text ++ rest) ≡ false
item_no_blank item text rest (string s h) = refl
item_no_blank item text rest (token word h) = word_no_blank word rest h
item_no_blank item text rest (integer number t h) = integer_no_blank number t rest h
item_no_blank item text rest not_true = refl
item_no_blank item text rest is_true = refl

word_some : (word : List ℕ) → IsWord begins_token is_in_token word → 0 < length word
word_some [] h = absurd h
word_some (b ∷ word) h = omega arith

integer_some : (number : ℤ) (text : List ℕ) → SpellsInteger number text → 0 < length text
integer_some number text (natural digits d) = d.some
integer_some number text (signed digits d) = omega arith

pub item_some : (item : Item) (text : List ℕ) → SpellsItem item text → 0 < length text
item_some item text (string s h) = omega arith
item_some item text (token word h) = word_some word h
item_some item text (integer number t h) = integer_some number t h
item_some item text not_true = lit< tt
item_some item text is_true = lit< tt

pub begins_less : (f g : ℕ → Bool) (bytes : List ℕ) → ((b : ℕ) → f b ≡ false → g b ≡ false) → begins f bytes ≡ false → begins g bytes ≡ false
begins_less f g [] h e = refl
begins_less f g (b ∷ bytes) h e = h b e

pub no_space : (bytes : List ℕ) → begins is_blank bytes ≡ false → begins is_space bytes ≡ false
no_space bytes h = begins_less is_blank is_space bytes (λ b e. (or_parts (eqb b 32) (eqb b 9) e).0) h
