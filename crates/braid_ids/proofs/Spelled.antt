-- Identifiers within quotes.
use Rattle.std.proofs.Common.{◌≡◌, ◌≢◌, ◌==◌, ℕ, Bool, true, false, List, [], ◌∷◌, ◌++◌, refl, ap, sym, ◌∙◌, append_assoc, flat_map}
use Rattle.std.proofs.lemmas.Bool.{eqb-false}
use Rattle.braid_ids.specs.Identifiers.{escaped, spelled_id}

-- a byte within quotes stands alone, or after a backslash
pub data Escape (byte : ℕ) : Type 0 where
  alone : byte ≢ 34 → byte ≢ 92 → escaped byte ≡ byte ∷ [] → Escape byte
  after : escaped byte ≡ 92 ∷ byte ∷ [] → Escape byte

pub escape_of : (byte : ℕ) → Escape byte
escape_of byte = go (byte == 34) (byte == 92) refl refl
  where
    go : (a b : Bool) → byte == 34 ≡ a → byte == 92 ≡ b → Escape byte
    go true b p q = after (rw p refl)
    go false true p q = after (rw (p, q) refl)
    go false false p q = alone (eqb-false byte 34 p) (eqb-false byte 92 q) (rw (p, q) refl)

first_escape : (byte : ℕ) (bytes rest : List ℕ) → flat_map escaped (byte ∷ bytes) ++ rest ≡ escaped byte ++ (flat_map escaped bytes ++ rest)
first_escape byte bytes rest = append_assoc (escaped byte) (flat_map escaped bytes) rest

-- no byte within quotes looks like the closing quote
no_close : (byte : ℕ) (bytes front back : List ℕ) → 34 ∷ front ≡ flat_map escaped (byte ∷ bytes) ++ 34 ∷ back → ⊥
no_close byte bytes front back e =
    let whole : 34 ∷ front ≡ escaped byte ++ (flat_map escaped bytes ++ 34 ∷ back) = e ∙ first_escape byte bytes (34 ∷ back) in
    elim (escape_of byte) [
      | alone n m is ↦ let head : 34 ∷ front ≡ byte ∷ (flat_map escaped bytes ++ 34 ∷ back) = whole ∙ ap (λ (z : List ℕ). z ++ (flat_map escaped bytes ++ 34 ∷ back)) is in n (cc)
      | after is ↦ let head : 34 ∷ front ≡ 92 ∷ byte ∷ (flat_map escaped bytes ++ 34 ∷ back) = whole ∙ ap (λ (z : List ℕ). z ++ (flat_map escaped bytes ++ 34 ∷ back)) is in cc
    ]

-- spelled bytes that are equal have one first byte, and equal others
same_escape : (a b : ℕ) (x y : List ℕ) → Escape a → Escape b → escaped a ++ x ≡ escaped b ++ y → (a ≡ b) × (x ≡ y)
same_escape a b x y (alone n m p) (alone k l q) e =
    let whole : a ∷ x ≡ b ∷ y = sym (ap (λ (z : List ℕ). z ++ x) p) ∙ e ∙ ap (λ (z : List ℕ). z ++ y) q in
    (cc, cc)
same_escape a b x y (alone n m p) (after q) e =
    let whole : a ∷ x ≡ 92 ∷ b ∷ y = sym (ap (λ (z : List ℕ). z ++ x) p) ∙ e ∙ ap (λ (z : List ℕ). z ++ y) q in
    absurd (m (cc))
same_escape a b x y (after p) (alone k l q) e =
    let whole : 92 ∷ a ∷ x ≡ b ∷ y = sym (ap (λ (z : List ℕ). z ++ x) p) ∙ e ∙ ap (λ (z : List ℕ). z ++ y) q in
    absurd (l (cc))
same_escape a b x y (after p) (after q) e =
    let whole : 92 ∷ a ∷ x ≡ 92 ∷ b ∷ y = sym (ap (λ (z : List ℕ). z ++ x) p) ∙ e ∙ ap (λ (z : List ℕ). z ++ y) q in
    (cc, cc)

pub quoted_same : (x y front back : List ℕ) → flat_map escaped x ++ 34 ∷ front ≡ flat_map escaped y ++ 34 ∷ back → (x ≡ y) × (front ≡ back)
quoted_same [] [] front back e = (refl, cc)
quoted_same [] (b ∷ y) front back e = absurd (no_close b y front back e)
quoted_same (a ∷ x) [] front back e = absurd (no_close a x back front (sym e))
quoted_same (a ∷ x) (b ∷ y) front back e =
    let firsts = same_escape a b (flat_map escaped x ++ 34 ∷ front) (flat_map escaped y ++ 34 ∷ back) (escape_of a) (escape_of b) (sym (first_escape a x (34 ∷ front)) ∙ e ∙ first_escape b y (34 ∷ back)) in
    let others = quoted_same x y front back firsts.1 in
    ((λ i. firsts.0 i ∷ others.0 i), others.1)

-- no bytes begin with the spellings of two identifiers
pub spelling_same : (x y front back : List ℕ) → spelled_id x ++ front ≡ spelled_id y ++ back → (x ≡ y) × (front ≡ back)
spelling_same x y front back e =
    let left : (flat_map escaped x ++ 34 ∷ []) ++ front ≡ (flat_map escaped y ++ 34 ∷ []) ++ back = cc in
    quoted_same x y front back (sym (append_assoc (flat_map escaped x) (34 ∷ []) front) ∙ left ∙ append_assoc (flat_map escaped y) (34 ∷ []) back)
