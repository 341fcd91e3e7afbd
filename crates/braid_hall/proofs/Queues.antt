-- The tickets that are held, after a draw and after a turn.
use Rattle.std.proofs.Common.{◌≡◌, ℕ, ◌+◌, ◌≢◌, List, [], ◌∷◌, ◌++◌, set, sym, ap, ◌∙◌, ⊎_elim, arith}
use mathlib.Core.Logic.{dite}
use mathlib.Core.Option.{some}
use native.Mathlib.Decide.{ℕ_discrete}
use lib.ListN.{get_elem?}
use Rattle.std.specs.Prelude.{Option, Some, None}
use Rattle.std.proofs.lemmas.Option.{none-some}
use Rattle.atomic_table.proofs.Lists.{at_set, set_here, set_else, at_snoc, at_longer}
use Rattle.braid_hall.specs.Turns.{IsQueue}
use Rattle.braid_hall.proofs.Places.{same_number, at_inside, at_one}

module _ (t n : ℕ) (qs : List (Option ℕ)) (i : ℕ) (q : IsQueue t n qs) where
  pub queue_draws : get_elem? qs i ≡ some None → IsQueue (t + 1) n (set qs i (Some t))
  queue_draws at = let order = q.order in let inside = at_inside qs i None at in record {
    order = omega arith;
    within = λ j k e. ⊎_elim (λ (h : (j ≡ i) × (Some t ≡ Some k)). let is = same_number t k h.1 in (omega arith, omega arith))
        (λ (h : (j ≢ i) × (get_elem? qs j ≡ some (Some k))). let w = q.within j k h.1 in let a = w.0 in let b = w.1 in (a, omega arith)) (at_set qs i j (Some t) (Some k) e);
    apart = λ a b k x y. ⊎_elim
        (λ (h : (a ≡ i) × (Some t ≡ Some k)). ⊎_elim (λ (g : (b ≡ i) × (Some t ≡ Some k)). h.0 ∙ sym g.0)
        (λ (g : (b ≢ i) × (get_elem? qs b ≡ some (Some k))). let w = (q.within b k g.1).1 in let is = same_number t k h.1 in absurd (omega arith)) (at_set qs i b (Some t) (Some k) y))
        (λ (h : (a ≢ i) × (get_elem? qs a ≡ some (Some k))). ⊎_elim
        (λ (g : (b ≡ i) × (Some t ≡ Some k)). let w = (q.within a k h.1).1 in let is = same_number t k g.1 in absurd (omega arith))
        (λ (g : (b ≢ i) × (get_elem? qs b ≡ some (Some k))). q.apart a b k h.1 g.1) (at_set qs i b (Some t) (Some k) y))
        (at_set qs i a (Some t) (Some k) x);
    every = λ k l h. dite (ℕ_discrete k t)
        (λ e. (i, set_here qs i (Some t) inside ∙ ap (λ (z : ℕ). some (Some z)) (sym e)))
        (λ ne. let old = q.every k l (omega arith) in (
          old.0,
          set_else qs i old.0 (Some t) (λ e. none-some k (at_one qs i None (Some k) at (ap (λ (z : ℕ). get_elem? qs z) (sym e) ∙ old.1))) ∙ old.1,
        ));
  }

  pub queue_leaves : get_elem? qs i ≡ some (Some n) → IsQueue t (n + 1) (set qs i None)
  queue_leaves at = let inside = (q.within i n at).1 in record {
    order = omega arith;
    within = λ j k e. ⊎_elim (λ (h : (j ≡ i) × (None ≡ Some k)). absurd (none-some k h.1))
        (λ (h : (j ≢ i) × (get_elem? qs j ≡ some (Some k))). let w = q.within j k h.1 in let a = w.0 in let b = w.1 in
        let other : k ≢ n = λ (e : k ≡ n). h.0 (q.apart j i n (h.1 ∙ ap (λ (z : ℕ). some (Some z)) e) at) in (omega arith, b)) (at_set qs i j None (Some k) e);
    apart = λ a b k x y. ⊎_elim (λ (h : (a ≡ i) × (None ≡ Some k)). absurd (none-some k h.1))
        (λ (h : (a ≢ i) × (get_elem? qs a ≡ some (Some k))). ⊎_elim (λ (g : (b ≡ i) × (None ≡ Some k)). absurd (none-some k g.1))
        (λ (g : (b ≢ i) × (get_elem? qs b ≡ some (Some k))). q.apart a b k h.1 g.1) (at_set qs i b None (Some k) y)) (at_set qs i a None (Some k) x);
    every = λ k l h. let old = q.every k (omega arith) h in (
      old.0,
      set_else qs i old.0 None (λ e. let is : n ≡ k = same_number n k (at_one qs i (Some n) (Some k) at (ap (λ (z : ℕ). get_elem? qs z) (sym e) ∙ old.1)) in omega arith) ∙ old.1,
    );
  }

pub queue_more : (t n : ℕ) (qs : List (Option ℕ)) → IsQueue t n qs → IsQueue t n (qs ++ None ∷ [])
queue_more t n qs q = record {
  order = q.order;
  within = λ j k e. ⊎_elim (q.within j k) (λ (h : None ≡ Some k). absurd (none-some k h)) (at_snoc qs None (Some k) j e);
  apart = λ a b k x y. ⊎_elim (λ h. ⊎_elim (q.apart a b k h) (λ (g : None ≡ Some k). absurd (none-some k g)) (at_snoc qs None (Some k) b y)) (λ (h : None ≡ Some k). absurd (none-some k h)) (at_snoc qs None (Some k) a x);
  every = λ k l h. let old = q.every k l h in (old.0, at_longer qs (None ∷ []) old.0 (Some k) old.1);
}
