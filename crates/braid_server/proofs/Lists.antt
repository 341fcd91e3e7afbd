-- Words on lists that the workers' proofs need.
use Rattle.std.proofs.Common.{◌≡◌, ℕ, suc, ◌+◌, ◌<◌, ◌≤◌, Bool, true, false, cond, List, [], ◌∷◌, ◌++◌, refl, ap, sym, ◌∙◌, subst, length, map, get_or, take, drop, ◌-◌, arith, append_assoc, length-append}
use Rattle.std.specs.Prelude.{All, filter, flat_map}
use Rattle.std.specs.List.{AllByRecursion, AllZip}
use Rattle.std.proofs.lemmas.List.{length-map, get_or-map, map-append, take_all}
use Rattle.braid_hall.specs.Views.{total}

pub all_each : {X : Type 0} (P : X → Type 0) (xs : List X) → All P xs → AllByRecursion P xs
all_each P [] h = tt
all_each P (x ∷ xs) h = (h 0 x (omega arith), all_each P xs (λ k d inside. h (suc k) d (omega (arith, inside))))

pub all_mapped : {X Y : Type 0} (P : Y → Type 0) (f : X → Y) (xs : List X) → All P (map f xs) → All (λ x. P (f x)) xs
all_mapped P f xs h k d inside =
    let long = length-map xs f in
    subst P (get_or-map f xs k d (f d) inside) (h k (f d) (omega (arith, inside, long)))

pub each_mapped : {X Y : Type 0} (P : Y → Type 0) (f : X → Y) (xs : List X) → AllByRecursion P (map f xs) → AllByRecursion (λ x. P (f x)) xs
each_mapped P f [] h = tt
each_mapped P f (x ∷ xs) h = (h.0, each_mapped P f xs h.1)

pub zip_mapped : {X Y : Type 0} (R : X → X → Type 0) (Q : Y → Y → Type 0) (f : X → Y) (xs ys : List X)
    → ((x y : X) → R x y → Q (f x) (f y)) → AllZip R xs ys → AllZip Q (map f xs) (map f ys)
zip_mapped R Q f [] [] g h = tt
zip_mapped R Q f [] (y ∷ ys) g h = absurd h
zip_mapped R Q f (x ∷ xs) [] g h = absurd h
zip_mapped R Q f (x ∷ xs) (y ∷ ys) g h = (g x y h.0, zip_mapped R Q f xs ys g h.1)

pub total_mapped : {X Y : Type 0} (f : Y → ℕ) (g : X → Y) (xs : List X) → total f (map g xs) ≡ total (λ x. f (g x)) xs
total_mapped f g [] = refl
total_mapped f g (x ∷ xs) = ap (λ n. f (g x) + n) (total_mapped f g xs)

pub total_lengths : {X A : Type 0} (f : X → List A) (xs : List X) → length (flat_map f xs) ≡ total (λ x. length (f x)) xs
total_lengths f [] = refl
total_lengths f (x ∷ xs) = let e = total_lengths f xs in let l = length-append (f x) (flat_map f xs) in omega (arith, e, l)

-- no element passes a test where none is left of a filter
pub none_passes : {X : Type 0} (p : X → Bool) (xs : List X) → filter p xs ≡ [] → AllByRecursion (λ x. p x ≡ false) xs
none_passes p [] h = tt
none_passes p (x ∷ xs) h = go (p x) refl h (λ k. none_passes p xs k)
  where
    go : (b : Bool) → p x ≡ b → filter p (x ∷ xs) ≡ [] → (filter p xs ≡ [] → AllByRecursion (λ y. p y ≡ false) xs) → AllByRecursion (λ y. p y ≡ false) (x ∷ xs)
    go true e k rest = let kept : filter p (x ∷ xs) ≡ x ∷ filter p xs = ap (λ c. cond c (x ∷ filter p xs) (filter p xs)) e in absurd (cc (k, kept))
    go false e k rest =
        let passed : filter p (x ∷ xs) ≡ filter p xs = ap (λ c. cond c (x ∷ filter p xs) (filter p xs)) e in
        (e, rest (sym passed ∙ k))

pub all_two : {X : Type 0} (P Q R : X → Type 0) (xs : List X) → ((x : X) → P x → Q x → R x) → AllByRecursion P xs → AllByRecursion Q xs → AllByRecursion R xs
all_two P Q R [] f h k = tt
all_two P Q R (x ∷ xs) f h k = (f x h.0 k.0, all_two P Q R xs f h.1 k.1)

-- lists that are as long, and agree at each place
pub zip_each : {X : Type 0} (R : X → X → Type 0) (xs ys : List X) → length ys ≡ length xs
    → ((k : ℕ) (d : X) → k < length xs → R (get_or xs k d) (get_or ys k d)) → AllZip R xs ys
zip_each R [] [] long h = tt
zip_each R [] (y ∷ ys) long h = absurd (cc long)
zip_each R (x ∷ xs) [] long h = absurd (cc long)
zip_each R (x ∷ xs) (y ∷ ys) long h =
    (h 0 x (omega arith), zip_each R xs ys (omega (arith, long)) (λ k d inside. h (suc k) d (omega (arith, inside))))

-- one element more, taken from the front of those that are left
pub taken_more : {X : Type 0} (whole front : List X) (x : X) (left rest : List X) → whole ≡ front ++ left → left ≡ x ∷ rest → whole ≡ front ++ x ∷ [] ++ rest
taken_more whole front x left rest is next = is ∙ ap (λ l. front ++ l) next ∙ sym (append_assoc front (x ∷ []) rest)

-- one image more at the end
pub mapped_last : {X Y : Type 0} (f : X → Y) (xs : List X) (x : X) (old new : List Y) → old ≡ map f xs → new ≡ old ++ f x ∷ [] → new ≡ map f (xs ++ x ∷ [])
mapped_last f xs x old new is more = more ∙ ap (λ l. l ++ f x ∷ []) is ∙ sym (map-append f xs (x ∷ []))

-- the first of a list and those behind it
pub first_and_rest : {X : Type 0} (xs : List X) (x : X) → 1 ≤ length xs → x ≡ get_or xs 0 x → xs ≡ x ∷ take (length xs - 1) (drop 1 xs)
first_and_rest [] x long is = absurd (omega (arith, long))
first_and_rest (y ∷ ys) x long is =
    ap (λ z. z ∷ ys) (sym is) ∙ ap (λ l. x ∷ l) (sym (take_all (length (y ∷ ys) - 1) ys (omega arith)))

take_front : {X : Type 0} (xs ys : List X) → take (length xs) (xs ++ ys) ≡ xs
take_front [] ys = refl
take_front (x ∷ xs) ys = ap (λ l. x ∷ l) (take_front xs ys)

-- as many as stand in front
pub takes_front : {X : Type 0} (n : ℕ) (xs ys : List X) → n ≡ length xs → take n (xs ++ ys) ≡ xs
takes_front n xs ys is = subst (λ m. take m (xs ++ ys) ≡ xs) (sym is) (take_front xs ys)
