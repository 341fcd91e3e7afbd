-- How many pure merges a write makes.
use Rattle.std.proofs.Common.{◌≡◌, ℕ, ◌<◌, ◌≤◌, ◌+◌, ◌-◌, ◌^◌, List, [], ◌∷◌, Bool, true, false, cond, nat_le, refl, sym, subst, arith, length, Option, Some, zero, suc}
use Rattle.std.proofs.lemmas.Bool.Decides.{nat_tests}
use Rattle.braid_ids.specs.Agents.{IsAgent}
use Rattle.braid_change.specs.declared.change.Change.TheVariants.{Patches}
use Rattle.braid_change.specs.Updates.{UpdateView}
use Rattle.braid_tree.specs.Trees.{Member}
use Rattle.braid_text.specs.Histories.{Follows, IsLegalLog}
use Rattle.braid_outbox.specs.Replicas.{frontier, greatest_number}
use Rattle.braid_outbox.specs.Writes.{next_in, merge_parents, merges_in, merges_needed}
use Rattle.braid_outbox.proofs.Names.{next_greatest}
use Rattle.braid_outbox.proofs.Fronts.{newest_in, narrower}
use Rattle.braid_outbox.proofs.Merges.{merge_follows}

none_needed : (w : ℕ) → w ≤ 32 → merges_needed w ≡ 0
none_needed w few = omega (arith, few)

one_needed : (w v : ℕ) → 32 < w → v + 31 ≡ w → merges_needed w ≡ 1 + merges_needed v
one_needed w v wide e = omega (arith, wide, e)

-- each merge takes 32 members of the frontier and leaves one, until it has at most 32
pub merges_length : (n : ℕ) (a : List ℕ) (last : Option (List ℕ)) (us : List UpdateView) → IsAgent a → IsLegalLog us → ((v : List ℕ) → last ≡ Some v → Member v (frontier us))
    → greatest_number a us + merges_needed (length (frontier us)) < 2 ^ 64 → length (frontier us) ≤ 32 + n → length (merges_in n a last us) ≡ merges_needed (length (frontier us))
merges_length zero a last us agent legal there small few = sym (none_needed (length (frontier us)) (omega (arith, few)))
merges_length (suc n) a last us agent legal there small few = go (nat_le (length F) 32) refl (λ l s f. merges_length n a (Some m.id) (m ∷ us) agent (l, legal) (λ v e. subst (λ (i : List ℕ). Member i (frontier (m ∷ us))) (let g : m.id ≡ v = cc in g) (newest_in m us (l, legal))) s f)
  where
    F : List (List ℕ)
    F = frontier us

    m : UpdateView
    m = next_in a us (merge_parents last F) (Patches [])

    more : List UpdateView
    more = merges_in n a (Some m.id) (m ∷ us)

    within : nat_le (length F) 32 ≡ true → length F ≤ 32
    within t = grind (arith, nat_tests)

    without : nat_le (length F) 32 ≡ false → 32 < length F
    without t = grind (arith, nat_tests)

    go : (b : Bool) → nat_le (length F) 32 ≡ b
        → ((l : Follows us m) → greatest_number a (m ∷ us) + merges_needed (length (frontier (m ∷ us))) < 2 ^ 64 → length (frontier (m ∷ us)) ≤ 32 + n → length more ≡ merges_needed (length (frontier (m ∷ us))))
        → length (cond b [] (m ∷ more)) ≡ merges_needed (length F)
    go true t ih = sym (none_needed (length F) (within t))
    go false t ih = by (omega (arith, one_needed (length F) (length F - 31) (without t) (omega (arith, without t)), small))
      where
        by : 1 + greatest_number a us < 2 ^ 64 → suc (length more) ≡ merges_needed (length F)
        by one =
            let l : Follows us m = merge_follows a last us agent there one in
            let d = narrower us m last (l, legal) refl there (without t) in
            let c = one_needed (length F) (length (frontier (m ∷ us))) (without t) d in
            let g = next_greatest a us m one refl in
            let e = ih l (omega (arith, g, c, small)) (omega (arith, d, few)) in
            omega (arith, e, c)
