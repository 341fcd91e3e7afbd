-- Members of filtered and cut lists.
use Rattle.std.proofs.Common.{◌≡◌, ℕ, List, [], ◌∷◌, Bool, true, false, cond, refl, subst, inl, inr, take, filter, suc, zero}
use Rattle.braid_tree.specs.Trees.{Member}

pub member_filter : {A : Type 0} (p : A → Bool) (z : A) (xs : List A) → Member z (filter p xs) → Member z xs × (p z ≡ true)
member_filter p z [] m = absurd m
member_filter p z (x ∷ xs) m = go (p x) refl m (member_filter p z xs)
  where
    go : (b : Bool) → p x ≡ b → Member z (cond b (x ∷ filter p xs) (filter p xs)) → (Member z (filter p xs) → Member z xs × (p z ≡ true)) → Member z (x ∷ xs) × (p z ≡ true)
    go true e (inl f) ih = (inl f, subst (λ t. p t ≡ true) f e)
    go true e (inr m) ih = (inr (ih m).0, (ih m).1)
    go false e m ih = (inr (ih m).0, (ih m).1)

pub filter_member : {A : Type 0} (p : A → Bool) (z : A) (xs : List A) → Member z xs → p z ≡ true → Member z (filter p xs)
filter_member p z [] m h = absurd m
filter_member p z (x ∷ xs) m h = go (p x) refl m (λ t. filter_member p z xs t h)
  where
    go : (b : Bool) → p x ≡ b → Member z (x ∷ xs) → (Member z xs → Member z (filter p xs)) → Member z (cond b (x ∷ filter p xs) (filter p xs))
    go true e (inl f) ih = inl f
    go true e (inr m) ih = inr (ih m)
    go false e (inl f) ih = absurd (let g : p z ≡ false = subst (λ t. p t ≡ false) f e in cc)
    go false e (inr m) ih = ih m

pub take_member : {A : Type 0} (z : A) (n : ℕ) (xs : List A) → Member z (take n xs) → Member z xs
take_member z zero xs m = absurd m
take_member z (suc n) [] m = m
take_member z (suc n) (x ∷ xs) (inl e) = inl e
take_member z (suc n) (x ∷ xs) (inr m) = inr (take_member z n xs m)
