-- Strict orders, and the order of paths.
use Rattle.std.proofs.Common.{◌≡◌, List, [], ◌∷◌, refl, sym, ap, ◌∙◌, inl, inr, ◌⊎◌}
use Rattle.std.specs.declared.cmp.Ordering.{Ordering}
use Rattle.std.proofs.Common.{Less, Equal, Greater}
use Rattle.std.specs.Ordering.{ordering_then, ordering_reverse}
use Rattle.std.specs.Cmp.{IsTotalOrder}
use Rattle.std.proofs.lemmas.Cmp.{tied_itself, lists_total, back_total}
use Rattle.braid_tree.specs.Paths.{path_cmp, PathBefore}

-- an order in which only equal things tie
pub record IsStrict {K : Type 0} (R : K → K → Ordering) : Type 0 where
  pub total : IsTotalOrder R
  pub same : (x y : K) → R x y ≡ Equal → x ≡ y

module _ {K : Type 0} (R : K → K → Ordering) (o : IsStrict R) where
  -- nothing is below itself
  pub irrefl : (x : K) → R x x ≡ Less → ⊥
  irrefl x h = let e = tied_itself o.total x in cc (e, h)

  -- of two things that are below one another, the first is below itself
  pub below_trans : (x y z : K) → R x y ≡ Less → R y z ≡ Less → R x z ≡ Less
  below_trans x y z = o.total.trans x y z

  pub asym : (x y : K) → R x y ≡ Less → R y x ≡ Less → ⊥
  asym x y h k = irrefl x (below_trans x y x h k)

  -- one of the three
  pub tri : (x y : K) → (R x y ≡ Less) ⊎ ((x ≡ y) ⊎ (R y x ≡ Less))
  tri x y = go (R x y) refl
    where
      go : (v : Ordering) → R x y ≡ v → (R x y ≡ Less) ⊎ ((x ≡ y) ⊎ (R y x ≡ Less))
      go Less e = inl e
      go Equal e = inr (inl (o.same x y e))
      go Greater e = inr (inr (o.total.antisymm y x ∙ ap ordering_reverse e))

  -- two paths that differ at the first key, or later
  pub before_cons : (x y : K) (p q : List K) → PathBefore R (x ∷ p) (y ∷ q) → (R y x ≡ Less) ⊎ ((x ≡ y) × PathBefore R p q)
  before_cons x y p q h = go (R y x) refl h
    where
      go : (v : Ordering) → R y x ≡ v → ordering_then v (path_cmp R p q) ≡ Less → (R y x ≡ Less) ⊎ ((x ≡ y) × PathBefore R p q)
      go Less e h = inl e
      go Equal e h = inr (sym (o.same y x e), h)
      go Greater e h = cc

  pub before_head : (x y : K) (p q : List K) → R y x ≡ Less → PathBefore R (x ∷ p) (y ∷ q)
  before_head x y p q h = rw h

  pub before_tail : (x : K) (p q : List K) → PathBefore R p q → PathBefore R (x ∷ p) (x ∷ q)
  before_tail x p q h = rw (tied_itself o.total x) h

  -- a path is strictly ordered, too
  pub paths_same : (p q : List K) → path_cmp R p q ≡ Equal → p ≡ q
  paths_same [] [] h = refl
  paths_same [] (y ∷ q) h = cc
  paths_same (x ∷ p) [] h = cc
  paths_same (x ∷ p) (y ∷ q) h = go (paths_same p q) (R y x) refl h
    where
      go : (path_cmp R p q ≡ Equal → p ≡ q) → (v : Ordering) → R y x ≡ v → ordering_then v (path_cmp R p q) ≡ Equal → x ∷ p ≡ y ∷ q
      go tail Less e h = cc
      go tail Equal e h = let a = o.same y x e in let b = tail h in cc
      go tail Greater e h = cc

  pub paths_strict : IsStrict (path_cmp R)
  paths_strict = record { total = lists_total (back_total o.total); same = paths_same }
