-- Lists that are walked side by side.
use Rattle.std.proofs.Common.{◌≡◌, ℕ, ◌+◌, ◌<◌, List, [], ◌∷◌, ◌++◌, Bool, true, false, not, Some, sym, ap, ◌∙◌, take, length, get_or, slice_get, nat_eq, refl}
use Rattle.std.specs.Cmp.Lexicographic.{pointwise, pointwise_decides}
use Rattle.std.proofs.lemmas.Bool.Decides.{Decides-eqb}
use Rattle.std.proofs.lemmas.List.{take_more}
use Rattle.std.proofs.lemmas.Option.{slice_get_within, get_or_from_slice_get}

pub same_more : {X : Type 0} (xs ys : List X) (n : ℕ) (x y : X) → n < length xs → n < length ys → x ≡ get_or xs n x → y ≡ get_or ys n y → x ≡ y → take n xs ≡ take n ys → take (n + 1) xs ≡ take (n + 1) ys
same_more {X = X} xs ys n x y k l e f g h =
    next xs x k e ∙ ap (λ front. front ++ x ∷ []) h ∙ ap (λ z. take n ys ++ z ∷ []) g ∙ sym (next ys y l f)
  where
    next : (zs : List X) (z : X) → n < length zs → z ≡ get_or zs n z → take (n + 1) zs ≡ take n zs ++ z ∷ []
    next zs z k e = take_more zs n z k ∙ ap (λ w. take n zs ++ w ∷ []) (sym e)

pub same_more_got : {X : Type 0} (xs ys : List X) (n : ℕ) (x y : X) → Some x ≡ slice_get xs n → Some y ≡ slice_get ys n → x ≡ y → take n xs ≡ take n ys → take (n + 1) xs ≡ take (n + 1) ys
same_more_got xs ys n x y e f = same_more xs ys n x y (slice_get_within xs n x (sym e)) (slice_get_within ys n y (sym f)) (sym (get_or_from_slice_get xs n x x (sym e))) (sym (get_or_from_slice_get ys n y y (sym f)))

-- numbers that are not told apart are the same
pub same_numbers : (xs ys : List ℕ) → false ≡ not (pointwise nat_eq xs ys) → xs ≡ ys
same_numbers xs ys h = (pointwise_decides Decides-eqb xs ys).0 (go (pointwise nat_eq xs ys) h)
  where
    go : (b : Bool) → false ≡ not b → b ≡ true
    go true h = refl
    go false h = cc
