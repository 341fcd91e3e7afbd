-- What is known of the members of a list.
use Rattle.std.proofs.Common.{◌≡◌, ℕ, ◌<◌, List, [], ◌∷◌, ◌++◌, length, get_or, zero, suc, arith, refl, subst, inl, inr, ◌⊎◌}
use Rattle.std.specs.List.{AllByRecursion, Contains}
use Rattle.braid_tree.specs.Trees.{Member}

-- membership by cases on the list, which proofs split, is membership by number, as clauses say it
pub contains_member : {A : Type 0} (xs : List A) (x : A) → Contains xs x → Member x xs
contains_member {A = A} xs x (k, l, e) = go xs k l e
  where
    go : (ys : List A) (k : ℕ) → k < length ys → get_or ys k x ≡ x → Member x ys
    go [] k l e = absurd (omega arith)
    go (y ∷ ys) zero l e = inl e
    go (y ∷ ys) (suc k) l e = inr (go ys k (omega arith) e)

pub member_contains : {A : Type 0} (xs : List A) (x : A) → Member x xs → Contains xs x
member_contains [] x m = absurd m
member_contains (y ∷ ys) x (inl e) = (zero, omega arith, e)
member_contains (y ∷ ys) x (inr m) = let c = member_contains ys x m in (suc c.0, omega (arith, c.1), c.2)

pub all_member : {A : Type 0} (P : A → Type 0) (x : A) (xs : List A) → AllByRecursion P xs → Member x xs → P x
all_member P x [] all m = absurd m
all_member P x (y ∷ ys) all (inl e) = subst P e all.0
all_member P x (y ∷ ys) all (inr m) = all_member P x ys all.1 m

pub all_from_members : {A : Type 0} (P : A → Type 0) (xs : List A) → ((x : A) → Member x xs → P x) → AllByRecursion P xs
all_from_members P [] h = tt
all_from_members P (x ∷ xs) h = (h x (inl refl), all_from_members P xs (λ y m. h y (inr m)))

pub member_append_left : {A : Type 0} (x : A) (xs ys : List A) → Member x xs → Member x (xs ++ ys)
member_append_left x [] ys m = absurd m
member_append_left x (y ∷ xs) ys (inl e) = inl e
member_append_left x (y ∷ xs) ys (inr m) = inr (member_append_left x xs ys m)

pub member_append_right : {A : Type 0} (x : A) (xs ys : List A) → Member x ys → Member x (xs ++ ys)
member_append_right x [] ys m = m
member_append_right x (y ∷ xs) ys m = inr (member_append_right x xs ys m)

pub member_append_cases : {A : Type 0} (x : A) (xs ys : List A) → Member x (xs ++ ys) → Member x xs ⊎ Member x ys
member_append_cases x [] ys m = inr m
member_append_cases x (y ∷ xs) ys (inl e) = inl (inl e)
member_append_cases x (y ∷ xs) ys (inr m) = elim (member_append_cases x xs ys m) [ inl a ↦ inl (inr a) | inr b ↦ inr b ]

-- lists with equal ends: the last parts are equal, and the fronts
pub last_same : {A : Type 0} (p q : List A) (a b : A) → p ++ a ∷ [] ≡ q ++ b ∷ [] → a ≡ b
last_same [] [] a b h = cc
last_same [] (y ∷ []) a b h = cc
last_same [] (y ∷ (z ∷ q)) a b h = cc
last_same (x ∷ []) [] a b h = cc
last_same (x ∷ (z ∷ p)) [] a b h = cc
last_same (x ∷ p) (y ∷ q) a b h = last_same p q a b cc

pub front_same : {A : Type 0} (p q : List A) (a b : A) → p ++ a ∷ [] ≡ q ++ b ∷ [] → p ≡ q
front_same [] [] a b h = refl
front_same [] (y ∷ []) a b h = cc
front_same [] (y ∷ (z ∷ q)) a b h = cc
front_same (x ∷ []) [] a b h = cc
front_same (x ∷ (z ∷ p)) [] a b h = cc
front_same (x ∷ p) (y ∷ q) a b h = let e : p ≡ q = front_same p q a b cc in cc
