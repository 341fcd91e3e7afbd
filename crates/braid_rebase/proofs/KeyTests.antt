-- What the tests on keys say.
use Rattle.std.proofs.Common.{◌≡◌, ℕ, List, [], ◌∷◌, Bool, true, false, ◌||◌, refl, sym, subst, inl, inr, ◌⊎◌, Equal}
use Rattle.std.specs.Ordering.{is_eq, nat_cmp}
use Rattle.std.proofs.lemmas.Cmp.{ranked}
use Rattle.braid_tree.specs.Keys.{Key, key_cmp}
use Rattle.braid_rebase.specs.Additions.{has_key}
use Rattle.braid_tree.specs.Trees.{Member}
use Rattle.braid_tree.proofs.Keys.{eq_true, eq_itself, keys_strict}

nat_same : (x y : ℕ) → nat_cmp x y ≡ Equal → x ≡ y
nat_same x y h = ranked x y Equal (sym h)

pub or_cases : (a b : Bool) → (a || b) ≡ true → (a ≡ true) ⊎ (b ≡ true)
or_cases true b h = inl refl
or_cases false b h = inr h

pub or_left : (a b : Bool) → a ≡ true → (a || b) ≡ true
or_left a b h = rw h

pub or_right : (a b : Bool) → b ≡ true → (a || b) ≡ true
or_right true b h = refl
or_right false b h = h

pub key_member : (k : Key) (js : List Key) → has_key k js ≡ true → Member k js
key_member k [] h = cc
key_member k (j ∷ js) h = elim (or_cases (is_eq (key_cmp k j)) (has_key k js) h) [
  | inl e ↦ inl (sym (eq_true key_cmp keys_strict k j e))
  | inr t ↦ inr (key_member k js t)
]

pub member_key : (k : Key) (js : List Key) → Member k js → has_key k js ≡ true
member_key k [] m = absurd m
member_key k (j ∷ js) (inl e) = or_left (is_eq (key_cmp k j)) (has_key k js) (subst (λ (t : Key). is_eq (key_cmp k t) ≡ true) (sym e) (eq_itself key_cmp keys_strict k))
member_key k (j ∷ js) (inr m) = or_right (is_eq (key_cmp k j)) (has_key k js) (member_key k js m)
