-- Which run of some blocks holds an element.
use Rattle.std.proofs.Common.{◌≡◌, ℕ, ◌+◌, ◌-◌, ◌<◌, List, ◌++◌, Option, Some, None, IsSomeAnd, IfNone, refl, length, take, drop, slice_get, sym, ap, subst, ◌∙◌, arith, inl, inr}
use Rattle.std.proofs.lemmas.Bool.{cases_order}
use Rattle.std.proofs.lemmas.Option.{slice_get_within}
use Rattle.braid_tree.specs.declared.at.At.{At}
use Rattle.braid_spans.specs.declared.run.Run.{Run}
use Rattle.braid_spans.specs.Kept.{IsHeld, IsHeldAt}
use Rattle.braid_spans.specs.Blocks.{flat, before}
use Rattle.braid_spans.proofs.Lists.{some_item}
use Rattle.braid_spans.proofs.SeenSteps.{get_left, get_right}
use Rattle.braid_spans.proofs.InBlocks.{get_flat, flat_two}

pub held_within : (rs : List Run) (at : At) (i : ℕ) → IsHeldAt rs at i → i < length rs
held_within rs at i h = let r = some_item (IsHeld at) (slice_get rs i) h in slice_get_within rs i r.0 r.1

-- an element that a block holds
pub held_flat : (bs : List (List Run)) (at : At) (s k n : ℕ) (b : List Run) → slice_get bs s ≡ Some b → n ≡ before bs s → IsHeldAt b at k → IsHeldAt (flat bs) at (n + k)
held_flat bs at s k n b there e h =
    subst (λ (o : Option Run). IsSomeAnd o (IsHeld at)) (sym (ap (λ (m : ℕ). slice_get (flat bs) (m + k)) e ∙ get_flat bs s k b there (held_within b at k h))) h

-- an element that neither of two lists holds
pub held_neither : (xs ys : List Run) (at : At) (k : ℕ) → IsHeldAt (xs ++ ys) at k → ((i : ℕ) → IsHeldAt xs at i → ⊥) → ((i : ℕ) → IsHeldAt ys at i → ⊥) → ⊥
held_neither xs ys at k h f g = elim (cases_order k (length xs)) [
  | inl same ↦ g (k - length xs) (subst (λ (o : Option Run). IsSomeAnd o (IsHeld at)) (get_right xs ys k (omega (arith, same))) h)
  | inr (inl less) ↦ f k (subst (λ (o : Option Run). IsSomeAnd o (IsHeld at)) (get_left xs ys k less) h)
  | inr (inr more) ↦ g (k - length xs) (subst (λ (o : Option Run). IsSomeAnd o (IsHeld at)) (get_right xs ys k (omega (arith, more))) h)
]

-- an element that the blocks from one on hold
pub held_behind : (bs : List (List Run)) (at : At) (s k n : ℕ) → n ≡ before bs s → IsHeldAt (flat (drop s bs)) at k → IsHeldAt (flat bs) at (n + k)
held_behind bs at s k n e h =
    subst (λ (o : Option Run). IsSomeAnd o (IsHeld at))
    (sym (ap (λ (m : ℕ). slice_get (flat bs) (m + k)) e ∙ ap (λ t. slice_get t (before bs s + k)) (flat_two bs s)
    ∙ get_right (flat (take s bs)) (flat (drop s bs)) (before bs s + k) (omega arith) ∙ ap (slice_get (flat (drop s bs))) less)) h
  where
    less : before bs s + k - length (flat (take s bs)) ≡ k
    less = omega arith

-- and one that the blocks before it hold
pub held_before : (bs : List (List Run)) (at : At) (s k : ℕ) → IsHeldAt (flat (take s bs)) at k → IsHeldAt (flat bs) at k
held_before bs at s k h =
    subst (λ (o : Option Run). IsSomeAnd o (IsHeld at))
    (sym (ap (λ t. slice_get t k) (flat_two bs s) ∙ get_left (flat (take s bs)) (flat (drop s bs)) k (held_within (flat (take s bs)) at k h))) h

-- what an answer says where it found none
pub from_none : (P : Type 0) (o : Option ℕ) → o ≡ None → IfNone o P → P
from_none P o e p = subst (λ (q : Option ℕ). IfNone q P) e p

pub from_no_some : (P : Type 0) (o : Option ℕ) → ((x : ℕ) → o ≡ Some x → ⊥) → IfNone o P → P
from_no_some P None f p = p
from_no_some P (Some x) f p = absurd (f x refl)
