-- Lists that are split at a byte.
use Rattle.std.proofs.Common.{◌≡◌, ◌≢◌, ℕ, suc, ◌+◌, ◌<◌, ◌^◌, decimal, List, [], ◌∷◌, ◌++◌, refl, length, take, get_or, arith}
use Rattle.std.proofs.lemmas.List.{take_more}
use Rattle.std.proofs.lemmas.Str.Parse.{IsNumeralModel, numerals_by_value, tells_digits, not_in_digits}
use Rattle.std.specs.Str.Parse.{AllDigits, digits_value}
use Rattle.std.proofs.lemmas.Fmt.{digits_decimal}
use Rattle.braid_ids.specs.Lists.{Lacks}

pub lacks_append : (b : ℕ) (xs ys : List ℕ) → Lacks b xs → Lacks b ys → Lacks b (xs ++ ys)
lacks_append b [] ys h k = k
lacks_append b (x ∷ xs) ys h k = (h.0, lacks_append b xs ys h.1 k)

pub lacks_more : (b : ℕ) (xs : List ℕ) (i : ℕ) → i < length xs → Lacks b (take i xs) → get_or xs i 0 ≢ b → Lacks b (take (i + 1) xs)
lacks_more b xs i l h n = rw (take_more xs i 0 l) (lacks_append b (take i xs) (get_or xs i 0 ∷ []) h (n, tt))

-- a list is split at its first b in one way
pub one_split : (b : ℕ) (xs ys us vs : List ℕ) → Lacks b xs → Lacks b us → xs ++ b ∷ ys ≡ us ++ b ∷ vs → (xs ≡ us) × (ys ≡ vs)
one_split b [] ys [] vs h k e = (refl, cc)
one_split b [] ys (u ∷ us) vs h k e = absurd (k.0 (cc))
one_split b (x ∷ xs) ys [] vs h k e = absurd (h.0 (cc))
one_split b (x ∷ xs) ys (u ∷ us) vs h k e =
    let rest : xs ++ b ∷ ys ≡ us ++ b ∷ vs = cc in
    let first : x ≡ u = cc in
    let p = one_split b xs ys us vs h.1 k.1 rest in
    let front = p.0 in
    (cc, p.1)

pub lacks_split : (b : ℕ) (xs us vs : List ℕ) → Lacks b xs → xs ≡ us ++ b ∷ vs → ⊥
lacks_split b [] [] vs h e = cc
lacks_split b [] (u ∷ us) vs h e = cc
lacks_split b (x ∷ xs) [] vs h e = h.0 (cc)
lacks_split b (x ∷ xs) (u ∷ us) vs h e = lacks_split b xs us vs h.1 (cc)

pub lacks_at : (b : ℕ) (xs : List ℕ) → ((i : ℕ) → i < length xs → get_or xs i 0 ≢ b) → Lacks b xs
lacks_at b [] h = tt
lacks_at b (x ∷ xs) h = (h 0 (omega arith), lacks_at b xs (λ i l. h (suc i) (omega (arith, l))))

own : IsNumeralModel (AllDigits 10) (digits_value 10)
own = numerals_by_value _ tells_digits

pub lacks_decimal : (n : ℕ) → n < 2 ^ 64 → Lacks 13 (decimal n)
lacks_decimal n small =
    lacks_at 13 (decimal n) (λ i l. not_in_digits own (decimal n) 13 (digits_decimal own n small) (λ r. omega (arith, r.0)) i l)
