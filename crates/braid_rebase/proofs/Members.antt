-- Membership by cases on the list, and membership as clauses say it.
use Rattle.std.proofs.Common.{◌≡◌, List, [], ◌∷◌, map, reverse, refl, ap, inl, inr}
use Rattle.std.specs.List.{Contains}
use Rattle.std.proofs.lemmas.List.Sorted.{IsPermutation-reverse, IsPermutation-sym, Contains-permutation}
use Rattle.braid_tree.specs.Trees.{Member}
pub use Rattle.braid_tree.proofs.Member.{contains_member, member_contains}

pub member_map : {A B : Type 0} (f : A → B) (x : A) (xs : List A) → Member x xs → Member (f x) (map f xs)
member_map f x [] m = absurd m
member_map f x (y ∷ xs) (inl e) = inl (ap f e)
member_map f x (y ∷ xs) (inr m) = inr (member_map f x xs m)

pub member_from_map : {A B : Type 0} (f : A → B) (y : B) (xs : List A) → Member y (map f xs) → (x : A) × Member x xs × (f x ≡ y)
member_from_map f y [] m = absurd m
member_from_map f y (x ∷ xs) (inl e) = (x, inl refl, e)
member_from_map f y (x ∷ xs) (inr m) = let r = member_from_map f y xs m in (r.0, inr r.1, r.2)

-- what a history contains, its log has, and the other way round
pub in_log : {A : Type 0} (xs : List A) (x : A) → Contains xs x → Member x (reverse xs)
in_log xs x c = contains_member (reverse xs) x (Contains-permutation xs (reverse xs) x (IsPermutation-reverse xs) c)

pub from_log : {A : Type 0} (xs : List A) (x : A) → Member x (reverse xs) → Contains xs x
from_log xs x m = Contains-permutation (reverse xs) xs x (IsPermutation-sym xs (reverse xs) (IsPermutation-reverse xs)) (member_contains (reverse xs) x m)
