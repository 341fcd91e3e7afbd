-- Where a new node lands: behind its origin, past the neighbours with greater keys.
use Rattle.std.proofs.Common.{◌≡◌, List, [], ◌∷◌, ◌++◌, refl, sym, subst, inl, inr, Less, Ordering}
use Rattle.std.specs.List.{AllByRecursion}
use Rattle.braid_tree.specs.Paths.{PathBefore}
use Rattle.braid_tree.proofs.Order.{IsStrict, irrefl, asym, below_trans, before_cons, before_tail}

module _ {K : Type 0} (R : K → K → Ordering) (o : IsStrict R) where
  -- nothing stands before the empty path
  pub before_root : (p : List K) → PathBefore R p [] → ⊥
  before_root [] h = cc
  before_root (x ∷ p) h = cc

  -- the empty path stands before every other
  pub root_before : (q : List K) (c : K) → PathBefore R [] (q ++ c ∷ [])
  root_before [] c = refl
  root_before (b ∷ q) c = refl

  -- a node stands before those below it
  pub before_below : (p : List K) (k : K) (q : List K) → PathBefore R p (p ++ k ∷ q)
  before_below [] k q = refl
  before_below (x ∷ p) k q = before_tail R o x p (p ++ k ∷ q) (before_below p k q)

  -- The first node behind a new one has a smaller key. S is the paths of the nodes, k the new key and p its origin's path,
  -- and q and c are those of a node behind the new one, with no node of S between.
  pub first_behind : (p : List K) (k : K) (q : List K) (c : K) (S : List K → Type 0)
      → ((a : List K) (b : K) (r : List K) → S (a ++ b ∷ r) → S (a ++ b ∷ []))
      → AllByRecursion (λ a. R a k ≡ Less) p
      → AllByRecursion (λ b. (b ≡ k) → ⊥) q
      → S (q ++ c ∷ [])
      → ((z : List K) → S z → PathBefore R z (q ++ c ∷ []) → PathBefore R z (p ++ k ∷ []))
      → PathBefore R (p ++ k ∷ []) (q ++ c ∷ [])
      → R c k ≡ Less
  first_behind [] k [] c S closed rise fresh here between h =
      elim (before_cons R o k c [] [] h) [ inl l ↦ l | inr e ↦ absurd (before_root [] e.1) ]
  first_behind [] k (b ∷ q) c S closed rise fresh here between h =
      elim (before_cons R o k b [] (q ++ c ∷ []) h) [
        | inl l ↦ elim (before_cons R o b k [] [] (between (b ∷ []) (closed [] b (q ++ c ∷ []) here) (before_tail R o b [] (q ++ c ∷ []) (root_before q c)))) [
          | inl m ↦ absurd (asym R o b k l m)
          | inr e ↦ absurd (before_root [] e.1)
        ]
        | inr e ↦ absurd (fresh.0 (sym e.0))
      ]
  first_behind (a ∷ p) k [] c S closed rise fresh here between h =
      elim (before_cons R o a c (p ++ k ∷ []) [] h) [
        | inl l ↦ below_trans R o c a k l rise.0
        | inr e ↦ absurd (before_root (p ++ k ∷ []) e.1)
      ]
  first_behind (a ∷ p) k (b ∷ q) c S closed rise fresh here between h =
      elim (before_cons R o a b (p ++ k ∷ []) (q ++ c ∷ []) h) [
        | inl l ↦ elim (before_cons R o b a [] (p ++ k ∷ []) (between (b ∷ []) (closed [] b (q ++ c ∷ []) here) (before_tail R o b [] (q ++ c ∷ []) (root_before q c)))) [
          | inl m ↦ absurd (asym R o a b m l)
          | inr e ↦ absurd (irrefl R o b (subst (λ z. R b z ≡ Less) (sym e.0) l))
        ]
        | inr e ↦ first_behind p k q c (λ z. S (a ∷ z)) (λ x y r. closed (a ∷ x) y r) rise.1 fresh.1
            (subst (λ w. S (w ∷ (q ++ c ∷ []))) (sym e.0) here)
            (λ z s n. again z (between (a ∷ z) s (subst (λ w. PathBefore R (a ∷ z) (w ∷ (q ++ c ∷ []))) e.0 (before_tail R o a z (q ++ c ∷ []) n))))
            e.1
      ]
    where
      again : (z : List K) → PathBefore R (a ∷ z) (a ∷ (p ++ k ∷ [])) → PathBefore R z (p ++ k ∷ [])
      again z n = elim (before_cons R o a a z (p ++ k ∷ []) n) [ inl l ↦ absurd (irrefl R o a l) | inr e ↦ e.1 ]

  -- A node between the origin and the new one has a greater key than the new one.
  pub passed : (p : List K) (k : K) (q : List K) (c : K)
      → AllByRecursion (λ b. R b c ≡ Less) q
      → PathBefore R p (q ++ c ∷ [])
      → PathBefore R (q ++ c ∷ []) (p ++ k ∷ [])
      → R k c ≡ Less
  passed [] k [] c rise after h = elim (before_cons R o c k [] [] h) [ inl l ↦ l | inr e ↦ absurd (before_root [] e.1) ]
  passed [] k (b ∷ q) c rise after h =
      elim (before_cons R o b k (q ++ c ∷ []) [] h) [ inl l ↦ below_trans R o k b c l rise.0 | inr e ↦ absurd (before_root (q ++ c ∷ []) e.1) ]
  passed (a ∷ p) k [] c rise after h =
      elim (before_cons R o a c p [] after) [
        | inl l ↦ elim (before_cons R o c a [] (p ++ k ∷ []) h) [
          | inl m ↦ absurd (asym R o a c m l)
          | inr e ↦ absurd (irrefl R o c (subst (λ z. R c z ≡ Less) (sym e.0) l))
        ]
        | inr e ↦ absurd (before_root p e.1)
      ]
  passed (a ∷ p) k (b ∷ q) c rise after h =
      elim (before_cons R o a b p (q ++ c ∷ []) after) [
        | inl l ↦ elim (before_cons R o b a (q ++ c ∷ []) (p ++ k ∷ []) h) [
          | inl m ↦ absurd (asym R o a b m l)
          | inr e ↦ absurd (irrefl R o b (subst (λ z. R b z ≡ Less) (sym e.0) l))
        ]
        | inr e ↦ elim (before_cons R o b a (q ++ c ∷ []) (p ++ k ∷ []) h) [
          | inl m ↦ absurd (irrefl R o a (subst (λ z. R a z ≡ Less) (sym e.0) m))
          | inr f ↦ passed p k q c rise.1 e.1 f.1
        ]
      ]
