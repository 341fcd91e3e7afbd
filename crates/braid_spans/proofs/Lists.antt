-- Lists around one of their items.
use Rattle.std.proofs.Common.{◌≡◌, ℕ, zero, suc, ◌+◌, List, [], ◌∷◌, ◌++◌, Option, Some, None, IsSomeAnd, IfSome, All, length, take, drop, slice_get, get_or, refl, sym, ap, subst, ◌∙◌, arith, append_assoc}
use Rattle.std.proofs.Math.ListN.{set}
use Rattle.std.specs.List.{insert}
use Rattle.std.proofs.lemmas.List.{length-append, length-take-le, take_at, drop_at, set_split, take_more}
use Rattle.std.proofs.lemmas.List.Elements.{All-append, All-cons, All-take, All-drop}
use Rattle.std.proofs.lemmas.List.Sums.{sum_by-append}
use Rattle.std.proofs.lemmas.Option.{slice_get_within, slice_get-get_or}
use Rattle.std.specs.List.{sum_by}

pub some_and : {X : Type 0} (P : X → Type 0) (o : Option X) (x : X) → o ≡ Some x → P x → IsSomeAnd o P
some_and {X} P o x e p = subst (λ (q : Option X). IsSomeAnd q P) (sym e) p

pub from_some_and : {X : Type 0} (P : X → Type 0) (o : Option X) (x : X) → o ≡ Some x → IsSomeAnd o P → P x
from_some_and {X} P o x e p = subst (λ (q : Option X). IsSomeAnd q P) e p

pub if_some : {X : Type 0} (P : X → Type 0) (o : Option X) (x : X) → o ≡ Some x → P x → IfSome o P
if_some {X} P o x e p = subst (λ (q : Option X). IfSome q P) (sym e) p

-- an item that is there, and its place
pub some_item : {X : Type 0} (P : X → Type 0) (o : Option X) → IsSomeAnd o P → (x : X) × (o ≡ Some x) × P x
some_item P None h = absurd h
some_item P (Some x) h = (x, refl, h)

pub one_item : {X : Type 0} (x y : X) (o : Option X) → o ≡ Some x → o ≡ Some y → x ≡ y
one_item x y o a b = let e : Some x ≡ Some y = sym a ∙ b in cc e

pub all_got : {X : Type 0} (P : X → Type 0) (xs : List X) (i : ℕ) (x : X) → All P xs → slice_get xs i ≡ Some x → P x
all_got P xs i x all e =
    let l = slice_get_within xs i x e in
    subst P (one_item (get_or xs i x) x (slice_get xs i) (slice_get-get_or xs i x l) e) (all i x l)

-- a list in three parts
pub parts : {X : Type 0} (xs : List X) (i : ℕ) (x : X) → slice_get xs i ≡ Some x → xs ≡ take i xs ++ x ∷ drop (suc i) xs
parts [] zero x e = cc
parts [] (suc i) x e = cc
parts (y ∷ xs) zero x e = let is : y ≡ x = cc e in ap (λ z. z ∷ xs) is
parts (y ∷ xs) (suc i) x e = ap (λ t. y ∷ t) (parts xs i x e)

pub set_parts : {X : Type 0} (xs : List X) (i : ℕ) (x y : X) → slice_get xs i ≡ Some x → set xs i y ≡ take i xs ++ y ∷ drop (suc i) xs
set_parts xs i x y e = set_split xs i y (slice_get_within xs i x e)

length_front : {X : Type 0} (xs : List X) (i : ℕ) (x : X) → slice_get xs i ≡ Some x → length (take i xs) ≡ i
length_front xs i x e = length-take-le i xs (let l = slice_get_within xs i x e in omega (arith, l))

-- an item behind a first part and one more
pub insert_behind : {X : Type 0} (fs bs : List X) (x y : X) (n : ℕ) → length fs + 1 ≡ n → insert (fs ++ x ∷ bs) n y ≡ fs ++ x ∷ y ∷ bs
insert_behind fs bs x y n l =
    ap (λ t. take n t ++ y ∷ drop n (fs ++ x ∷ bs)) (sym (append_assoc fs (x ∷ []) bs))
    ∙ ap (λ t. take n ((fs ++ x ∷ []) ++ bs) ++ y ∷ drop n t) (sym (append_assoc fs (x ∷ []) bs))
    ∙ ap (λ t. t ++ y ∷ drop n ((fs ++ x ∷ []) ++ bs)) (take_at (fs ++ x ∷ []) bs n long)
    ∙ ap (λ t. (fs ++ x ∷ []) ++ y ∷ t) (drop_at (fs ++ x ∷ []) bs n long)
    ∙ append_assoc fs (x ∷ []) (y ∷ bs)
  where
    long : length (fs ++ x ∷ []) ≡ n
    long = length-append fs (x ∷ []) ∙ l

-- an item replaced by two
pub two_for_one : {X : Type 0} (xs : List X) (i : ℕ) (x y z : X) → slice_get xs i ≡ Some x → insert (set xs i y) (i + 1) z ≡ take i xs ++ y ∷ z ∷ drop (suc i) xs
two_for_one xs i x y z e =
    ap (λ t. insert t (i + 1) z) (set_parts xs i x y e)
    ∙ insert_behind (take i xs) (drop (suc i) xs) y z (i + 1) (ap (λ n. n + 1) (length_front xs i x e))

pub all_insert : {X : Type 0} (P : X → Type 0) (xs : List X) (i : ℕ) (x : X) → P x → All P xs → All P (insert xs i x)
all_insert P xs i x p all = All-append P (take i xs) (x ∷ drop i xs) (All-take P i xs all) (All-cons P x (drop i xs) p (All-drop P i xs all))

pub get_at : {X : Type 0} (fs bs : List X) (x : X) (n : ℕ) → length fs ≡ n → slice_get (fs ++ x ∷ bs) n ≡ Some x
get_at [] bs x zero l = refl
get_at [] bs x (suc n) l = absurd (omega (arith, l))
get_at (a ∷ fs) bs x zero l = absurd (omega (arith, l))
get_at (a ∷ fs) bs x (suc n) l = get_at fs bs x n (omega (arith, l))

pub get_next : {X : Type 0} (fs bs : List X) (x y : X) (n : ℕ) → length fs + 1 ≡ n → slice_get (fs ++ x ∷ y ∷ bs) n ≡ Some y
get_next fs bs x y n l =
    ap (λ t. slice_get t n) (sym (append_assoc fs (x ∷ []) (y ∷ bs)))
    ∙ get_at (fs ++ x ∷ []) bs y n (length-append fs (x ∷ []) ∙ l)

pub get_first_of_two : {X : Type 0} (xs : List X) (i : ℕ) (x y z : X) → slice_get xs i ≡ Some x → slice_get (insert (set xs i y) (i + 1) z) i ≡ Some y
get_first_of_two xs i x y z e = ap (λ t. slice_get t i) (two_for_one xs i x y z e) ∙ get_at (take i xs) (z ∷ drop (suc i) xs) y i (length_front xs i x e)

pub get_second_of_two : {X : Type 0} (xs : List X) (i : ℕ) (x y z : X) → slice_get xs i ≡ Some x → slice_get (insert (set xs i y) (i + 1) z) (i + 1) ≡ Some z
get_second_of_two xs i x y z e = ap (λ t. slice_get t (i + 1)) (two_for_one xs i x y z e) ∙ get_next (take i xs) (drop (suc i) xs) y z (i + 1) (ap (λ n. n + 1) (length_front xs i x e))

pub sum_by-cons : {X : Type 0} (f : X → ℕ) (x : X) (xs : List X) → sum_by f (x ∷ xs) ≡ f x + sum_by f xs
sum_by-cons f x xs = sum_by-append f (x ∷ []) xs ∙ ap (λ n. n + sum_by f xs) one
  where
    one : sum_by f (x ∷ []) ≡ f x
    one = omega arith

pub drop_at_item : {X : Type 0} (xs : List X) (i : ℕ) (x : X) → slice_get xs i ≡ Some x → drop i xs ≡ x ∷ drop (suc i) xs
drop_at_item [] zero x e = cc
drop_at_item [] (suc i) x e = cc
drop_at_item (y ∷ xs) zero x e = let is : y ≡ x = cc e in ap (λ z. z ∷ xs) is
drop_at_item (y ∷ xs) (suc i) x e = drop_at_item xs i x e

pub take_item : {X : Type 0} (xs : List X) (i : ℕ) (x : X) → slice_get xs i ≡ Some x → take (i + 1) xs ≡ take i xs ++ x ∷ []
take_item xs i x e =
    let l = slice_get_within xs i x e in
    take_more xs i x l ∙ ap (λ z. take i xs ++ z ∷ []) (one_item (get_or xs i x) x (slice_get xs i) (slice_get-get_or xs i x l) e)
