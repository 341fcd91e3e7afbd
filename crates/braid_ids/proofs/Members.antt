-- Membership by cases on the list, and members by their places.
use Rattle.std.proofs.Common.{◌≡◌, ℕ, ◌<◌, List, [], ◌∷◌, ◌++◌, length, map, take, get_or, reverse, slice_get, Some, None, zero, suc, arith, refl, sym, ap, ◌∙◌, inl, inr, ◌⊎◌}
use Rattle.std.specs.List.{Contains}
use Rattle.std.proofs.lemmas.Option.{slice_get_within, none-some, same_Some}
use Rattle.std.proofs.lemmas.List.Sorted.{IsPermutation-reverse, IsPermutation-sym, Contains-permutation}

abbrev pub Member : {A : Type 0} → A → List A → Type 0
Member x [] = ⊥
Member x (y ∷ ys) = (y ≡ x) ⊎ Member x ys

pub contains_member : {A : Type 0} (xs : List A) (x : A) → Contains xs x → Member x xs
contains_member {A = A} xs x (k, l, e) = go xs k l e
  where
    go : (ys : List A) (k : ℕ) → k < length ys → get_or ys k x ≡ x → Member x ys
    go [] k l e = absurd (omega arith)
    go (y ∷ ys) zero l e = inl e
    go (y ∷ ys) (suc k) l e = inr (go ys k (omega arith) e)

pub member_contains : {A : Type 0} (xs : List A) (x : A) → Member x xs → Contains xs x
member_contains [] x m = absurd m
member_contains (y ∷ ys) x (inl e) = (zero, omega arith, e)
member_contains (y ∷ ys) x (inr m) = let c = member_contains ys x m in (suc c.0, omega (arith, c.1), c.2)

pub member_append_left : {A : Type 0} (x : A) (xs ys : List A) → Member x xs → Member x (xs ++ ys)
member_append_left x [] ys m = absurd m
member_append_left x (y ∷ xs) ys (inl e) = inl e
member_append_left x (y ∷ xs) ys (inr m) = inr (member_append_left x xs ys m)

pub member_append_right : {A : Type 0} (x : A) (xs ys : List A) → Member x ys → Member x (xs ++ ys)
member_append_right x [] ys m = m
member_append_right x (y ∷ xs) ys m = inr (member_append_right x xs ys m)

pub member_append_cases : {A : Type 0} (x : A) (xs ys : List A) → Member x (xs ++ ys) → Member x xs ⊎ Member x ys
member_append_cases x [] ys m = inr m
member_append_cases x (y ∷ xs) ys (inl e) = inl (inl e)
member_append_cases x (y ∷ xs) ys (inr m) = elim (member_append_cases x xs ys m) [ inl a ↦ inl (inr a) | inr b ↦ inr b ]

pub member_map : {A B : Type 0} (f : A → B) (x : A) (xs : List A) → Member x xs → Member (f x) (map f xs)
member_map f x [] m = absurd m
member_map f x (y ∷ xs) (inl e) = inl (ap f e)
member_map f x (y ∷ xs) (inr m) = inr (member_map f x xs m)

pub member_from_map : {A B : Type 0} (f : A → B) (y : B) (xs : List A) → Member y (map f xs) → (x : A) × Member x xs × (f x ≡ y)
member_from_map f y [] m = absurd m
member_from_map f y (x ∷ xs) (inl e) = (x, inl refl, e)
member_from_map f y (x ∷ xs) (inr m) = let r = member_from_map f y xs m in (r.0, inr r.1, r.2)

pub member_reverse : {A : Type 0} (xs : List A) (x : A) → Member x xs → Member x (reverse xs)
member_reverse xs x m = contains_member (reverse xs) x (Contains-permutation xs (reverse xs) x (IsPermutation-reverse xs) (member_contains xs x m))

pub member_from_reverse : {A : Type 0} (xs : List A) (x : A) → Member x (reverse xs) → Member x xs
member_from_reverse xs x m = contains_member xs x (Contains-permutation (reverse xs) xs x (IsPermutation-sym xs (reverse xs) (IsPermutation-reverse xs)) (member_contains (reverse xs) x m))

-- what stands at a place is a member, and each member stands at one
pub member_at : {A : Type 0} (xs : List A) (n : ℕ) (x : A) → slice_get xs n ≡ Some x → Member x xs
member_at [] n x e = absurd (none-some x e)
member_at (y ∷ ys) zero x e = inl (same_Some y x e)
member_at (y ∷ ys) (suc n) x e = inr (member_at ys n x e)

pub place_of : {A : Type 0} (xs : List A) (x : A) → Member x xs → (n : ℕ) × (slice_get xs n ≡ Some x)
place_of [] x m = absurd m
place_of (y ∷ ys) x (inl e) = (zero, ap Some e)
place_of (y ∷ ys) x (inr m) = let p = place_of ys x m in (suc p.0, p.1)

-- places of a list that grew at its end, or was cut there
pub slice_get-append_left : {A : Type 0} (xs ys : List A) (n : ℕ) → n < length xs → slice_get (xs ++ ys) n ≡ slice_get xs n
slice_get-append_left [] ys n l = absurd (omega arith)
slice_get-append_left (x ∷ xs) ys zero l = refl
slice_get-append_left (x ∷ xs) ys (suc n) l = slice_get-append_left xs ys n (omega arith)

pub slice_get_push : {A : Type 0} (xs : List A) (y : A) → slice_get (xs ++ y ∷ []) (length xs) ≡ Some y
slice_get_push [] y = refl
slice_get_push (x ∷ xs) y = slice_get_push xs y

pub slice_get-take : {A : Type 0} (k : ℕ) (xs : List A) (n : ℕ) → n < k → slice_get (take k xs) n ≡ slice_get xs n
slice_get-take zero xs n l = absurd (omega arith)
slice_get-take (suc k) [] n l = refl
slice_get-take (suc k) (x ∷ xs) zero l = refl
slice_get-take (suc k) (x ∷ xs) (suc n) l = slice_get-take k xs n (omega arith)

pub kept_place : {A : Type 0} (xs ys : List A) (n : ℕ) (x : A) → slice_get xs n ≡ Some x → slice_get (xs ++ ys) n ≡ Some x
kept_place xs ys n x e = slice_get-append_left xs ys n (slice_get_within xs n x e) ∙ e

pub no_gap : {A : Type 0} (xs : List A) (n : ℕ) → n < length xs → slice_get xs n ≡ None → ⊥
no_gap [] n l a = omega arith
no_gap (x ∷ xs) zero l a = none-some x (sym a)
no_gap (x ∷ xs) (suc n) l a = no_gap xs n (omega arith) a
