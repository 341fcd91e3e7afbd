-- Fronts of one list.
use Rattle.std.proofs.Common.{◌≡◌, ℕ, ◌-◌, ◌≤◌, append_assoc, List, [], ◌∷◌, ◌++◌, refl, ap, sym, ◌∙◌, length, take, drop, arith, length-append, length-take}
use Rattle.std.proofs.lemmas.List.{take-append-drop}

pub same_front : (c d r s : List ℕ) → length c ≡ length d → c ++ r ≡ d ++ s → c ≡ d
same_front [] [] r s l e = refl
same_front [] (y ∷ d) r s l e = absurd (omega (arith, l))
same_front (x ∷ c) [] r s l e = absurd (omega (arith, l))
same_front (x ∷ c) (y ∷ d) r s l e =
    let k : length c ≡ length d = omega (arith, l) in
    let others : c ++ r ≡ d ++ s = cc in
    let first : x ≡ y = cc in
    let tails = same_front c d r s k others in
    cc

pub cut_front_at : (n : ℕ) (b a rest z : List ℕ) → length b ≡ n → length a ≤ n → b ++ rest ≡ a ++ z → b ≡ a ++ take (n - length a) z
cut_front_at n b a rest z l s e =
    let whole = take-append-drop (n - length a) z in
    let k = ap length e ∙ length-append a z in
    let m = length-append b rest in
    let size : length (a ++ take (n - length a) z) ≡ n = omega (arith, length-append a (take (n - length a) z), length-take (n - length a) z, k, m, l, s) in
    same_front b (a ++ take (n - length a) z) rest (drop (n - length a) z) (l ∙ sym size) (e ∙ ap (λ w. a ++ w) (sym whole) ∙ sym (append_assoc a (take (n - length a) z) (drop (n - length a) z)))

pub cut_front : (b a rest z : List ℕ) → length b ≡ 16_384 → length a ≤ 16_384 → b ++ rest ≡ a ++ z → b ≡ a ++ take (16_384 - length a) z
cut_front = cut_front_at 16_384
