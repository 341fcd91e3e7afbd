-- Pieces that are put are put under other words for the same bytes.
use Rattle.std.proofs.Common.{◌≡◌, ℕ, ◌≤◌, ◌-◌, ◌^◌, ◌<◌, min, List, ◌∷◌, ap, subst, ◌∙◌, take, length, flat_map, encode_utf8_all, arith}
use Rattle.std.proofs.lemmas.List.{take_all}
use Rattle.braid_ids.specs.Identifiers.{escaped}

pub along : {X : Type 0} (P : List ℕ → X → X → Type 0) (x y : X) (a b : List ℕ) → a ≡ b → P a x y → P b x y
along P x y a b e p = subst (λ (t : List ℕ). P t x y) e p

-- all bytes of an identifier were passed
pub all_escaped : (items id : List ℕ) (n : ℕ) → length items ≤ n → items ≡ id → 34 ∷ flat_map escaped (take n items) ≡ 34 ∷ flat_map escaped id
all_escaped items id n l e = ap (λ (t : List ℕ). 34 ∷ flat_map escaped t) (take_all n items l ∙ e)

-- a length that is told up to its type's end, of a text that is short
pub exact_len : (n : ℕ) (text : List ℕ) → n ≡ min (length (encode_utf8_all text)) (2 ^ 64 - 1) → length (encode_utf8_all text) < 2 ^ 64 → n ≡ length (encode_utf8_all text)
exact_len n text e l = omega arith
