-- What holds of each in a list holds of each in its two parts.
use Rattle.std.proofs.Common.{◌≡◌, ℕ, ◌≤◌, List, ◌++◌, All, length, take, drop, arith}
use Rattle.std.proofs.lemmas.Grind.{common_steps}
use Rattle.std.proofs.lemmas.List.Elements.{All-same, All-take, All-drop}

pub front_all : {X : Type 0} (P : X → Type 0) (xs ys zs : List X) → zs ≡ xs ++ ys → All P zs → All P xs
front_all P xs ys zs e all =
    let same : xs ≡ take (length xs) zs = grind (arith, common_steps, e) in
    All-same P xs _ same (All-take P (length xs) zs all)

pub rest_all : {X : Type 0} (P : X → Type 0) (xs ys zs : List X) → zs ≡ xs ++ ys → All P zs → All P ys
rest_all P xs ys zs e all =
    let same : ys ≡ drop (length xs) zs = grind (arith, common_steps, e) in
    All-same P ys _ same (All-drop P (length xs) zs all)
