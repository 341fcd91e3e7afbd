-- Lists of three words.
use Rattle.std.proofs.Common.{◌≡◌, ℕ, ◌≤◌, ◌<◌, List, [], ◌∷◌, get_or, length, codes, arith}

pub three_words : (words : List (List ℕ)) (own seed rounds : List ℕ) → 3 ≤ length words → length words < 4
    → own ≡ get_or words 0 own → seed ≡ get_or words 1 seed → rounds ≡ get_or words 2 rounds → own ≡ codes "drill"
    → words ≡ codes "drill" ∷ seed ∷ rounds ∷ []
three_words [] own seed rounds l m e f g d = absurd (omega (arith, l))
three_words (x ∷ []) own seed rounds l m e f g d = absurd (omega (arith, l))
three_words (x ∷ y ∷ []) own seed rounds l m e f g d = absurd (omega (arith, l))
three_words (x ∷ y ∷ z ∷ []) own seed rounds l m e f g d =
    let a : own ≡ x = e in
    let b : seed ≡ y = f in
    let c : rounds ≡ z = g in
    cc
three_words (x ∷ y ∷ z ∷ w ∷ ws) own seed rounds l m e f g d = absurd (omega (arith, m))
