-- What it says that an identifier is among others.
use Rattle.std.proofs.Common.{◌≡◌, ℕ, List, [], ◌∷◌, Bool, true, false, ◌||◌, refl, sym, subst, inl, inr, ◌⊎◌}
use Rattle.std.specs.Ordering.{is_eq}
use Rattle.braid_ids.specs.Identifiers.{id_cmp}
use Rattle.braid_ids.proofs.Ids.{eq_true, eq_itself}
use Rattle.braid_ids.proofs.Members.{Member}
use Rattle.braid_graph.specs.Entries.{has_id}

or_cases : (a b : Bool) → (a || b) ≡ true → (a ≡ true) ⊎ (b ≡ true)
or_cases true b h = inl refl
or_cases false b h = inr h

or_left : (a b : Bool) → a ≡ true → (a || b) ≡ true
or_left a b h = rw h

or_right : (a b : Bool) → b ≡ true → (a || b) ≡ true
or_right true b h = refl
or_right false b h = h

pub id_member : (v : List ℕ) (F : List (List ℕ)) → has_id v F ≡ true → Member v F
id_member v [] h = cc
id_member v (w ∷ F) h = elim (or_cases (is_eq (id_cmp v w)) (has_id v F) h) [
  | inl e ↦ inl (sym (eq_true v w e))
  | inr t ↦ inr (id_member v F t)
]

pub member_id : (v : List ℕ) (F : List (List ℕ)) → Member v F → has_id v F ≡ true
member_id v [] m = absurd m
member_id v (w ∷ F) (inl e) = or_left (is_eq (id_cmp v w)) (has_id v F) (subst (λ (t : List ℕ). is_eq (id_cmp v t) ≡ true) (sym e) (eq_itself v))
member_id v (w ∷ F) (inr m) = or_right (is_eq (id_cmp v w)) (has_id v F) (member_id v F m)

-- an identifier is among others or not
pub member_or_not : (v : List ℕ) (F : List (List ℕ)) → Member v F ⊎ (Member v F → ⊥)
member_or_not v F = go (has_id v F) refl
  where
    go : (b : Bool) → has_id v F ≡ b → Member v F ⊎ (Member v F → ⊥)
    go true e = inl (id_member v F e)
    go false e = inr (λ m. let t = member_id v F m in cc)
