-- Identifiers put in rising order: the list rises, has the same members, and is the only one.
use Rattle.std.proofs.Common.{◌≡◌, ◌↔◌, ◌≤◌, ℕ, List, [], ◌∷◌, length, suc, arith, refl, sym, ap, subst, ◌∙◌, inl, inr, ◌⊎◌, Less, Equal, Greater, Ordering}
use Rattle.std.specs.List.{AllByRecursion, Contains}
use Rattle.std.specs.List.Sorted.{IsStrictlySortedBy}
use Rattle.std.specs.Ordering.{ordering_reverse}
use Rattle.std.proofs.lemmas.Cmp.{nat_list_cmp_total}
use Rattle.braid_ids.specs.Identifiers.{id_cmp}
use Rattle.braid_ids.specs.Frontiers.{IsRising, with_id, rising_ids}
use Rattle.braid_ids.proofs.Members.{Member, contains_member, member_contains}
use Rattle.braid_ids.proofs.Rising.{rising_same}
use Rattle.braid_ids.proofs.Ids.{id_same}

abbrev pub AllDistinct : List (List ℕ) → Type 0
AllDistinct [] = Unit {0}
AllDistinct (v ∷ vs) = (Member v vs → ⊥) × AllDistinct vs

-- the three ways in which an identifier is put before or behind the first of a list
with_id_before : (v w : List ℕ) (ws : List (List ℕ)) → id_cmp v w ≡ Less → with_id v (w ∷ ws) ≡ v ∷ w ∷ ws
with_id_before v w ws e = rw e

with_id_same : (v w : List ℕ) (ws : List (List ℕ)) → id_cmp v w ≡ Equal → with_id v (w ∷ ws) ≡ w ∷ ws
with_id_same v w ws e = rw e

with_id_behind : (v w : List ℕ) (ws : List (List ℕ)) → id_cmp v w ≡ Greater → with_id v (w ∷ ws) ≡ w ∷ with_id v ws
with_id_behind v w ws e = rw e

member_with_id : (v : List ℕ) (ws : List (List ℕ)) → Member v (with_id v ws)
member_with_id v [] = inl refl
member_with_id v (w ∷ ws) = go (id_cmp v w) refl (member_with_id v ws)
  where
    go : (o : Ordering) → id_cmp v w ≡ o → Member v (with_id v ws) → Member v (with_id v (w ∷ ws))
    go Less e r = subst (Member v) (sym (with_id_before v w ws e)) (inl refl)
    go Equal e r = subst (Member v) (sym (with_id_same v w ws e)) (inl (sym (id_same v w e)))
    go Greater e r = subst (Member v) (sym (with_id_behind v w ws e)) (inr r)

old_with_id : (u v : List ℕ) (ws : List (List ℕ)) → Member u ws → Member u (with_id v ws)
old_with_id u v [] m = absurd m
old_with_id u v (w ∷ ws) m = go (id_cmp v w) refl m (old_with_id u v ws)
  where
    go : (o : Ordering) → id_cmp v w ≡ o → (w ≡ u) ⊎ Member u ws → (Member u ws → Member u (with_id v ws)) → Member u (with_id v (w ∷ ws))
    go Less e m r = subst (Member u) (sym (with_id_before v w ws e)) (inr m)
    go Equal e m r = subst (Member u) (sym (with_id_same v w ws e)) m
    go Greater e (inl a) r = subst (Member u) (sym (with_id_behind v w ws e)) (inl a)
    go Greater e (inr m) r = subst (Member u) (sym (with_id_behind v w ws e)) (inr (r m))

member_of_with_id : (u v : List ℕ) (ws : List (List ℕ)) → Member u (with_id v ws) → (v ≡ u) ⊎ Member u ws
member_of_with_id u v [] (inl a) = inl a
member_of_with_id u v [] (inr m) = absurd m
member_of_with_id u v (w ∷ ws) m = go (id_cmp v w) refl (member_of_with_id u v ws)
  where
    behind : Member u (w ∷ with_id v ws) → (Member u (with_id v ws) → (v ≡ u) ⊎ Member u ws) → (v ≡ u) ⊎ Member u (w ∷ ws)
    behind (inl a) r = inr (inl a)
    behind (inr k) r = elim (r k) [ inl a ↦ inl a | inr n ↦ inr (inr n) ]

    go : (o : Ordering) → id_cmp v w ≡ o → (Member u (with_id v ws) → (v ≡ u) ⊎ Member u ws) → (v ≡ u) ⊎ Member u (w ∷ ws)
    go Less e r = subst (Member u) (with_id_before v w ws e) m
    go Equal e r = inr (subst (Member u) (with_id_same v w ws e) m)
    go Greater e r = behind (subst (Member u) (with_id_behind v w ws e) m) r

length_with_id : (v : List ℕ) (ws : List (List ℕ)) → (Member v ws → ⊥) → length (with_id v ws) ≡ suc (length ws)
length_with_id v [] h = refl
length_with_id v (w ∷ ws) h = go (id_cmp v w) refl (length_with_id v ws (λ m. h (inr m)))
  where
    go : (o : Ordering) → id_cmp v w ≡ o → length (with_id v ws) ≡ suc (length ws) → length (with_id v (w ∷ ws)) ≡ suc (length (w ∷ ws))
    go Less e r = ap length (with_id_before v w ws e)
    go Equal e r = absurd (h (inl (sym (id_same v w e))))
    go Greater e r = ap length (with_id_behind v w ws e) ∙ ap suc r

within_with_id : (v : List ℕ) (ws : List (List ℕ)) → length (with_id v ws) ≤ suc (length ws)
within_with_id v [] = omega arith
within_with_id v (w ∷ ws) = go (id_cmp v w) refl (within_with_id v ws)
  where
    go : (o : Ordering) → id_cmp v w ≡ o → length (with_id v ws) ≤ suc (length ws) → length (with_id v (w ∷ ws)) ≤ suc (length (w ∷ ws))
    go Less e r = let l = ap length (with_id_before v w ws e) in omega arith
    go Equal e r = let l = ap length (with_id_same v w ws e) in omega arith
    go Greater e r = let l = ap length (with_id_behind v w ws e) in omega arith

pub member_rising : (v : List ℕ) (vs : List (List ℕ)) → Member v vs → Member v (rising_ids vs)
member_rising v [] m = absurd m
member_rising v (w ∷ ws) (inl e) = subst (λ (t : List ℕ). Member v (with_id t (rising_ids ws))) (sym e) (member_with_id v (rising_ids ws))
member_rising v (w ∷ ws) (inr m) = old_with_id v w (rising_ids ws) (member_rising v ws m)

pub member_from_rising : (v : List ℕ) (vs : List (List ℕ)) → Member v (rising_ids vs) → Member v vs
member_from_rising v [] m = absurd m
member_from_rising v (w ∷ ws) m = elim (member_of_with_id v w (rising_ids ws) m) [
  | inl a ↦ inl a
  | inr n ↦ inr (member_from_rising v ws n)
]

pub length_rising : (vs : List (List ℕ)) → AllDistinct vs → length (rising_ids vs) ≡ length vs
length_rising [] d = refl
length_rising (v ∷ vs) d = length_with_id v (rising_ids vs) (λ m. d.0 (member_from_rising v vs m)) ∙ ap suc (length_rising vs d.1)

-- what a rising list says of its first identifier, and how one is put before it
rises_none : IsRising []
unfolding IsStrictlySortedBy
rises_none = tt

rises_rest : (w : List ℕ) (ws : List (List ℕ)) → IsRising (w ∷ ws) → IsRising ws
unfolding IsStrictlySortedBy
rises_rest w ws r = r.1

all_member : (P : List ℕ → Type 0) (x : List ℕ) (xs : List (List ℕ)) → AllByRecursion P xs → Member x xs → P x
all_member P x [] all m = absurd m
all_member P x (y ∷ ys) all (inl e) = subst P e all.0
all_member P x (y ∷ ys) all (inr m) = all_member P x ys all.1 m

all_from_members : (P : List ℕ → Type 0) (xs : List (List ℕ)) → ((x : List ℕ) → Member x xs → P x) → AllByRecursion P xs
all_from_members P [] h = tt
all_from_members P (x ∷ xs) h = (h x (inl refl), all_from_members P xs (λ y m. h y (inr m)))

rises_first : (w : List ℕ) (ws : List (List ℕ)) → IsRising (w ∷ ws) → (u : List ℕ) → Member u ws → id_cmp w u ≡ Less
unfolding IsStrictlySortedBy
rises_first w ws r u m = all_member (λ (t : List ℕ). id_cmp w t ≡ Less) u ws r.0 m

rises_cons : (w : List ℕ) (ws : List (List ℕ)) → ((u : List ℕ) → Member u ws → id_cmp w u ≡ Less) → IsRising ws → IsRising (w ∷ ws)
unfolding IsStrictlySortedBy
rises_cons w ws h r = (all_from_members (λ (t : List ℕ). id_cmp w t ≡ Less) ws h, r)

rises_with_id : (v : List ℕ) (ws : List (List ℕ)) → IsRising ws → IsRising (with_id v ws)
rises_with_id v [] r = rises_cons v [] (λ u m. absurd m) r
rises_with_id v (w ∷ ws) r = go (id_cmp v w) refl (rises_with_id v ws (rises_rest w ws r))
  where
    below : id_cmp v w ≡ Less → (u : List ℕ) → Member u (w ∷ ws) → id_cmp v u ≡ Less
    below e u (inl a) = subst (λ (t : List ℕ). id_cmp v t ≡ Less) a e
    below e u (inr m) = nat_list_cmp_total.trans v w u e (rises_first w ws r u m)

    above : id_cmp v w ≡ Greater → (u : List ℕ) → Member u (with_id v ws) → id_cmp w u ≡ Less
    above e u m = elim (member_of_with_id u v ws m) [
      | inl a ↦ subst (λ (t : List ℕ). id_cmp w t ≡ Less) a (nat_list_cmp_total.antisymm w v ∙ ap ordering_reverse e)
      | inr n ↦ rises_first w ws r u n
    ]

    go : (o : Ordering) → id_cmp v w ≡ o → IsRising (with_id v ws) → IsRising (with_id v (w ∷ ws))
    go Less e ih = subst IsRising (sym (with_id_before v w ws e)) (rises_cons v (w ∷ ws) (below e) r)
    go Equal e ih = subst IsRising (sym (with_id_same v w ws e)) r
    go Greater e ih = subst IsRising (sym (with_id_behind v w ws e)) (rises_cons w (with_id v ws) (above e) ih)

pub rises_ids : (vs : List (List ℕ)) → IsRising (rising_ids vs)
rises_ids [] = rises_none
rises_ids (v ∷ vs) = rises_with_id v (rising_ids vs) (rises_ids vs)

-- the members of the rising list are those of the list
pub rising_members : (ids : List (List ℕ)) (id : List ℕ) → Contains (rising_ids ids) id ↔ Contains ids id
rising_members ids id = (
  λ c. member_contains ids id (member_from_rising id ids (contains_member (rising_ids ids) id c)),
  λ c. member_contains (rising_ids ids) id (member_rising id ids (contains_member ids id c)),
)

-- a rising list with these members is the rising list of them
pub frontier_is : (F ids : List (List ℕ)) → IsRising F → ((id : List ℕ) → Contains F id ↔ Contains ids id) → F ≡ rising_ids ids
frontier_is F ids r same = rising_same F (rising_ids ids) r (rises_ids ids) (λ id. (
  λ c. (rising_members ids id).1 ((same id).0 c),
  λ c. (same id).1 ((rising_members ids id).0 c),
))

-- a rising list is its own
pub rising_itself : (F : List (List ℕ)) → IsRising F → rising_ids F ≡ F
rising_itself F r = sym (frontier_is F F r (λ id. (λ c. c, λ c. c)))

-- it has no more members than the list
pub rising_within : (ids : List (List ℕ)) → length (rising_ids ids) ≤ length ids
rising_within [] = omega arith
rising_within (v ∷ vs) = let a = within_with_id v (rising_ids vs) in let b = rising_within vs in omega arith
