-- Parts that make no update have one fault, and those that make one have none.
use Rattle.std.proofs.Common.{◌≡◌, ℕ, ◌+◌, ◌<◌, ◌≤◌, inl, inr, ◌⊎◌, List, [], ◌∷◌, false, cond, min, length, Option, Some, None, refl, sym, ap, ◌∙◌, arith}
use Rattle.std.specs.Prelude.{◌-◌, ◌^◌}
use Rattle.std.specs.Option.{option_map}
use Rattle.std.specs.List.{position_from}
use Rattle.std.proofs.lemmas.Bool.{cases_lt}
use Rattle.std.proofs.lemmas.Bool.Decides.{nat_tests}
use Rattle.std.proofs.lemmas.Option.{none-some, same_Some}
use Rattle.braid_change.specs.Changes.{patches_of, content_len, is_backwards, do_overlap, neighbours, first_backwards, AreListed, AreNumbered, AreScalars}
use Rattle.braid_change.specs.Updates.{IsBuilt, IsBuildFault}
use Rattle.braid_change.proofs.Shapes.{built}
use Rattle.braid_change.specs.declared.change.Change.{Change}
use Rattle.braid_change.specs.declared.patch.Patch.{Patch}
use Rattle.braid_change.specs.declared.update.BuildFault.{BuildFault}
use Rattle.braid_change.specs.declared.update.BuildFault.TheVariants.{TooManyParents, TooManyPatches, Backwards, Overlap, TooLong}

not_above : (n most : ℕ) → most < n → n ≤ most → ⊥
not_above n most l h = omega arith

no_place : (o : Option ℕ) (n : ℕ) → o ≡ Some n → o ≡ None → ⊥
no_place o n found none = none-some n (sym none ∙ found)

one_place : (o : Option ℕ) (n m : ℕ) → o ≡ Some n → o ≡ Some m → n ≡ m
one_place o n m found also = same_Some n m (sym found ∙ also)

pub fault_one : (parents : List (List ℕ)) (change : Change) (f g : BuildFault) → IsBuildFault parents change f → IsBuildFault parents change g → f ≡ g
fault_one parents change (TooManyParents n) (TooManyParents m) h k = ap TooManyParents (h.1 ∙ sym k.1)
fault_one parents change (TooManyParents n) (TooManyPatches m) h k = absurd (not_above _ _ h.0 k.0)
fault_one parents change (TooManyParents n) (Backwards m) h k = absurd (not_above _ _ h.0 k.0)
fault_one parents change (TooManyParents n) (Overlap m) h k = absurd (not_above _ _ h.0 k.0)
fault_one parents change (TooManyParents n) (TooLong m) h k = absurd (not_above _ _ h.0 k.0)
fault_one parents change (TooManyPatches n) (TooManyParents m) h k = absurd (not_above _ _ k.0 h.0)
fault_one parents change (TooManyPatches n) (TooManyPatches m) h k = ap TooManyPatches (h.2 ∙ sym k.2)
fault_one parents change (TooManyPatches n) (Backwards m) h k = absurd (not_above _ _ h.1 k.1)
fault_one parents change (TooManyPatches n) (Overlap m) h k = absurd (not_above _ _ h.1 k.1)
fault_one parents change (TooManyPatches n) (TooLong m) h k = absurd (not_above _ _ h.1 k.1)
fault_one parents change (Backwards n) (TooManyParents m) h k = absurd (not_above _ _ k.0 h.0)
fault_one parents change (Backwards n) (TooManyPatches m) h k = absurd (not_above _ _ k.1 h.1)
fault_one parents change (Backwards n) (Backwards m) h k = ap Backwards (one_place _ n m h.2 k.2)
fault_one parents change (Backwards n) (Overlap m) h k = absurd (no_place _ n h.2 k.2)
fault_one parents change (Backwards n) (TooLong m) h k = absurd (no_place _ n h.2 k.2)
fault_one parents change (Overlap n) (TooManyParents m) h k = absurd (not_above _ _ k.0 h.0)
fault_one parents change (Overlap n) (TooManyPatches m) h k = absurd (not_above _ _ k.1 h.1)
fault_one parents change (Overlap n) (Backwards m) h k = absurd (no_place _ m k.2 h.2)
fault_one parents change (Overlap n) (Overlap m) h k = ap Overlap (one_place _ n m h.3 k.3)
fault_one parents change (Overlap n) (TooLong m) h k = absurd (no_place _ n h.3 k.3)
fault_one parents change (TooLong n) (TooManyParents m) h k = absurd (not_above _ _ k.0 h.0)
fault_one parents change (TooLong n) (TooManyPatches m) h k = absurd (not_above _ _ k.1 h.1)
fault_one parents change (TooLong n) (Backwards m) h k = absurd (no_place _ m k.2 h.2)
fault_one parents change (TooLong n) (Overlap m) h k = absurd (no_place _ m k.3 h.3)
fault_one parents change (TooLong n) (TooLong m) h k = ap TooLong (h.5 ∙ sym k.5)

-- of listed patches none is backwards, and no two neighbours overlap
no_backwards : (ps : List Patch) (low k : ℕ) → AreListed low ps → position_from is_backwards k ps ≡ None
no_backwards [] low k h = refl
no_backwards (p ∷ ps) low k h = ap (λ b. cond b (Some k) (position_from is_backwards (k + 1) ps)) (in_order p.end p.start h.1) ∙ no_backwards ps p.end (k + 1) h.2
  where
    in_order : (a b : ℕ) → b ≤ a → is_backwards (record { start = b; end = a; text = [] }) ≡ false
    in_order a b l = grind (arith, nat_tests)

no_overlap : (ps : List Patch) (low k : ℕ) → AreListed low ps → position_from do_overlap k (neighbours ps) ≡ None
no_overlap [] low k h = refl
no_overlap (p ∷ []) low k h = refl
no_overlap (p ∷ q ∷ ps) low k h = ap (λ b. cond b (Some k) (position_from do_overlap (k + 1) (neighbours (q ∷ ps)))) (apart p q h.2.0) ∙ no_overlap (q ∷ ps) p.end (k + 1) h.2
  where
    apart : (p q : Patch) → p.end ≤ q.start → do_overlap (p, q) ≡ false
    apart p q l = grind (arith, nat_tests)

pub built_faultless : (parents : List (List ℕ)) (change : Change) (f : BuildFault) → IsBuilt parents change → IsBuildFault parents change f → ⊥
built_faultless parents change (TooManyParents n) is h = not_above _ _ h.0 is.few_parents
built_faultless parents change (TooManyPatches n) is h = not_above _ _ h.1 is.shaped.few
built_faultless parents change (Backwards n) is h = no_place _ n h.2 (no_backwards (patches_of change) 0 0 is.shaped.listed)
built_faultless parents change (Overlap n) is h = no_place _ n h.3 (ap (option_map (λ (n : ℕ). n + 1)) (no_overlap (patches_of change) 0 0 is.shaped.listed))
built_faultless parents change (TooLong n) is h = not_above _ _ h.4 is.shaped.short

-- parts of scalar values and of numbers below 2^32 are built or have a fault
pub built_or_fault : (parents : List (List ℕ)) (change : Change) → AreScalars change → AreNumbered (patches_of change) → IsBuilt parents change ⊎ ((f : BuildFault) × IsBuildFault parents change f)
built_or_fault parents change scalar numbered = elim (cases_lt 32 (length parents)) [
  | inl many ↦ inr (TooManyParents (length parents), (many, refl))
  | inr few ↦ patches few (cases_lt 1000 (length (patches_of change)))
]
  where
    Answer : Type 0
    Answer = IsBuilt parents change ⊎ ((f : BuildFault) × IsBuildFault parents change f)

    bytes : length parents ≤ 32 → length (patches_of change) ≤ 1000 → first_backwards (patches_of change) ≡ None → (o : Option ℕ) → position_from do_overlap 0 (neighbours (patches_of change)) ≡ o → (1048576 < content_len change) ⊎ (content_len change ≤ 1048576) → Answer
    bytes few some back (Some n) e size = inr (Overlap (n + 1), (few, some, back, ap (option_map (λ (n : ℕ). n + 1)) e))
    bytes few some back None e (inl long) = inr (TooLong (min (content_len change) (2 ^ 64 - 1)), (few, some, back, ap (option_map (λ (n : ℕ). n + 1)) e, long, refl))
    bytes few some back None e (inr short) = inl (built parents change (patches_of change) refl few some back e short numbered scalar)

    order : length parents ≤ 32 → length (patches_of change) ≤ 1000 → (o : Option ℕ) → first_backwards (patches_of change) ≡ o → Answer
    order few some (Some n) e = inr (Backwards n, (few, some, e))
    order few some None e = bytes few some e (position_from do_overlap 0 (neighbours (patches_of change))) refl (cases_lt 1048576 (content_len change))

    patches : length parents ≤ 32 → (1000 < length (patches_of change)) ⊎ (length (patches_of change) ≤ 1000) → Answer
    patches few (inl many) = inr (TooManyPatches (length (patches_of change)), (few, many, refl))
    patches few (inr some) = order few some (first_backwards (patches_of change)) refl
