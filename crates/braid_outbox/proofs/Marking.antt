-- Flags that grow by one, and one that is set.
use Rattle.std.proofs.Common.{◌≡◌, ◌≢◌, ◌↔◌, ℕ, ◌<◌, ◌⊎◌, inl, inr, Bool, true, false, List, [], ◌∷◌, ◌++◌, length, get_or, refl, sym, ap, subst, ◌∙◌, zero, suc}
use Rattle.std.proofs.Math.ListN.{set}
use Rattle.std.proofs.lemmas.Bool.{cases_eq}
use Rattle.std.proofs.lemmas.List.{get_or-set_same, get_or-set_other}
use Rattle.braid_ids.specs.MarkSets.{IsMarked}

flag_more : (flags : List Bool) (b : Bool) (n : ℕ) → IsMarked (flags ++ b ∷ []) n → IsMarked flags n ⊎ ((n ≡ length flags) × (b ≡ true))
flag_more [] b zero h = inr (refl, h)
flag_more [] b (suc n) h = inl h
flag_more (f ∷ flags) b zero h = inl h
flag_more (f ∷ flags) b (suc n) h = elim (flag_more flags b n h) [ inl k ↦ inl k | inr k ↦ inr (ap suc k.0, k.1) ]

more_flag : (flags : List Bool) (b : Bool) (n : ℕ) → IsMarked flags n → IsMarked (flags ++ b ∷ []) n
more_flag [] b n h = absurd (none n h)
  where
    none : (n : ℕ) → IsMarked [] n → ⊥
    none zero h = cc
    none (suc n) h = cc
more_flag (f ∷ flags) b zero h = h
more_flag (f ∷ flags) b (suc n) h = more_flag flags b n h

last_flag : (flags : List Bool) (b : Bool) → b ≡ true → IsMarked (flags ++ b ∷ []) (length flags)
last_flag [] b h = h
last_flag (f ∷ flags) b h = last_flag flags b h

-- a set flag more is that of the next number
pub marked_more : (flags : List Bool) (n : ℕ) → IsMarked (flags ++ true ∷ []) n ↔ (IsMarked flags n ⊎ (n ≡ length flags))
marked_more flags n = (
  (λ h. elim (flag_more flags true n h) [ inl k ↦ inl k | inr k ↦ inr k.0 ]),
  (λ s. elim s [
    | inl k ↦ more_flag flags true n k
    | inr e ↦ subst (IsMarked (flags ++ true ∷ [])) (sym e) (last_flag flags true refl)
  ]),
)

-- a flag more that is not set is nothing
pub marked_same : (flags : List Bool) (n : ℕ) → IsMarked (flags ++ false ∷ []) n ↔ IsMarked flags n
marked_same flags n = ((λ h. elim (flag_more flags false n h) [ inl k ↦ k | inr k ↦ absurd (let e = k.1 in cc) ]), (λ k. more_flag flags false n k))

-- one flag more is set
pub marked_set : (flags : List Bool) (m n : ℕ) → m < length flags → IsMarked (set flags m true) n ↔ (IsMarked flags n ⊎ (n ≡ m))
marked_set flags m n l = go (cases_eq n m)
  where
    go : (n ≡ m) ⊎ (n ≢ m) → IsMarked (set flags m true) n ↔ (IsMarked flags n ⊎ (n ≡ m))
    go (inl e) = let here : IsMarked (set flags m true) n = ap (λ k. get_or (set flags m true) k false) e ∙ get_or-set_same flags m true false l in
        ((λ h. inr e), (λ s. here))
    go (inr d) = let same : get_or (set flags m true) n false ≡ get_or flags n false = get_or-set_other flags m n true false d in
        ((λ h. inl (sym same ∙ h)), (λ s. elim s [ inl k ↦ same ∙ k | inr e ↦ absurd (d e) ]))
