-- Identifiers are strictly ordered, and what a test of two of them says.
use Rattle.std.proofs.Common.{◌≡◌, ℕ, List, [], ◌∷◌, Bool, true, false, refl, sym, ap, subst, inl, inr, ◌⊎◌, Less, Equal, Greater, Ordering}
use Rattle.std.specs.Ordering.{is_eq, nat_cmp, ordering_then}
use Rattle.std.specs.Cmp.Lexicographic.{slice_cmp}
use Rattle.std.proofs.lemmas.Cmp.{tied_itself, nat_list_cmp_total, ranked}
use Rattle.braid_ids.specs.Identifiers.{id_cmp}

-- identifiers that tie are the same
pub id_same : (a b : List ℕ) → id_cmp a b ≡ Equal → a ≡ b
id_same [] [] h = refl
id_same [] (y ∷ ys) h = cc
id_same (x ∷ xs) [] h = cc
id_same (x ∷ xs) (y ∷ ys) h = go (nat_cmp x y) refl h (id_same xs ys)
  where
    go : (o : Ordering) → nat_cmp x y ≡ o → ordering_then o (slice_cmp nat_cmp xs ys) ≡ Equal → (id_cmp xs ys ≡ Equal → xs ≡ ys) → x ∷ xs ≡ y ∷ ys
    go Less e h rest = cc
    go Equal e h rest = let p : x ≡ y = ranked x y Equal (sym e) in let q : xs ≡ ys = rest h in cc
    go Greater e h rest = cc

pub id_itself : (a : List ℕ) → id_cmp a a ≡ Equal
id_itself a = tied_itself nat_list_cmp_total a

pub eq_true : (a b : List ℕ) → is_eq (id_cmp a b) ≡ true → a ≡ b
eq_true a b h = id_same a b (go (id_cmp a b) h)
  where
    go : (v : Ordering) → is_eq v ≡ true → v ≡ Equal
    go Less h = cc
    go Equal h = refl
    go Greater h = cc

pub eq_itself : (a : List ℕ) → is_eq (id_cmp a a) ≡ true
eq_itself a = ap is_eq (id_itself a)

-- the test of two identifiers says whether they are the same
pub same_or_not : (a b : List ℕ) → ((is_eq (id_cmp a b) ≡ true) × (a ≡ b)) ⊎ ((is_eq (id_cmp a b) ≡ false) × (a ≡ b → ⊥))
same_or_not a b = go (is_eq (id_cmp a b)) refl
  where
    go : (v : Bool) → is_eq (id_cmp a b) ≡ v → ((is_eq (id_cmp a b) ≡ true) × (a ≡ b)) ⊎ ((is_eq (id_cmp a b) ≡ false) × (a ≡ b → ⊥))
    go true e = inl (e, eq_true a b e)
    go false e = inr (e, λ same. let t : is_eq (id_cmp a b) ≡ true = subst (λ (w : List ℕ). is_eq (id_cmp a w) ≡ true) same (eq_itself a) in cc)
