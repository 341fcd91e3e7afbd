-- A new node that is put behind its origin, past the neighbours with greater keys, stands in reading order.
use Rattle.std.proofs.Common.{◌≡◌, List, [], ◌∷◌, ◌++◌, refl, sym, ap, subst, ◌∙◌, inl, inr, ◌⊎◌, Less, Greater, Ordering}
use Rattle.std.specs.List.{AllByRecursion}
use Rattle.std.specs.Ordering.{is_lt}
use Rattle.braid_tree.specs.Paths.{path_cmp, PathBefore}
use Rattle.braid_tree.specs.Nodes.{Node, path_of, Before, IsReading, with_node}
use Rattle.braid_tree.specs.Trees.{Member, RisesToKey, IsWithout, AreGreater, StartsSmaller}
use Rattle.braid_tree.proofs.Member.{all_member, last_same}
use Rattle.braid_tree.proofs.Order.{IsStrict, irrefl, asym, tri, paths_strict}
use Rattle.braid_tree.proofs.Landing.{first_behind, passed}

module _ {K : Type 0} (R : K → K → Ordering) (o : IsStrict R) where
  pub with_node_here : (x y : Node K) (ys : List (Node K)) → Before R x y → with_node R x (y ∷ ys) ≡ x ∷ y ∷ ys
  with_node_here x y ys h = rw h

  not_before : (x y : Node K) → Before R y x → is_lt (path_cmp R (path_of x) (path_of y)) ≡ is_lt Greater
  not_before x y h = elim (tri (path_cmp R) (paths_strict R o) (path_of x) (path_of y)) [
    | inl l ↦ absurd (asym (path_cmp R) (paths_strict R o) (path_of x) (path_of y) l h)
    | inr (inl e) ↦ absurd (irrefl (path_cmp R) (paths_strict R o) (path_of x) (subst (λ z. path_cmp R z (path_of x) ≡ Less) (sym e) h))
    | inr (inr g) ↦ ap is_lt (reversed g)
  ]
    where
      reversed : path_cmp R (path_of y) (path_of x) ≡ Less → path_cmp R (path_of x) (path_of y) ≡ Greater
      reversed g = (paths_strict R o).total.antisymm (path_of x) (path_of y) ∙ rw g

  pub with_node_later : (x y : Node K) (ys : List (Node K)) → Before R y x → with_node R x (y ∷ ys) ≡ y ∷ with_node R x ys
  with_node_later x y ys h = rw (not_before x y h)

  -- behind nodes that stand before it, a node goes into what follows them
  pub with_node_front : (x : Node K) (front rest : List (Node K)) → AllByRecursion (λ y. Before R y x) front → with_node R x (front ++ rest) ≡ front ++ with_node R x rest
  with_node_front x [] rest all = refl
  with_node_front x (y ∷ front) rest all = with_node_later x y (front ++ rest) all.0 ∙ ap (λ t. y ∷ t) (with_node_front x front rest all.1)

-- what is known of a node y that stands behind the origin of x
pub record IsBehind {K : Type 0} (R : K → K → Ordering) (S : List K → Type 0) (x y : Node K) : Type 0 where
  pub rising : RisesToKey R y
  pub without : IsWithout x.key y
  pub after : PathBefore R x.above (path_of y)
  pub here : S (path_of y)

module _ {K : Type 0} (R : K → K → Ordering) (o : IsStrict R) (S : List K → Type 0) (closed : (a : List K) (b : K) (r : List K) → S (a ++ b ∷ r) → S (a ++ b ∷ [])) (x : Node K) (rise : RisesToKey R x) where
  paths_o : IsStrict (path_cmp R)
  paths_o = paths_strict R o

  -- each path of S is one before x, or one of a listed node
  abbrev IsCovered : List (Node K) → Type 0
  IsCovered ys = (z : List K) → S z → PathBefore R z (path_of x) ⊎ ((y : Node K) × Member y ys × (path_of y ≡ z))

  -- before y stands nothing but what stands before x
  between : (y : Node K) (ys : List (Node K)) → AllByRecursion (Before R y) ys → IsCovered (y ∷ ys) → (z : List K) → S z → PathBefore R z (path_of y) → PathBefore R z (path_of x)
  between y ys above cover z s h = elim (cover z s) [
    | inl b ↦ b
    | inr (w, inl e, p) ↦ absurd (irrefl (path_cmp R) paths_o (path_of y) (subst (λ t. PathBefore R t (path_of y)) (sym p ∙ ap path_of (sym e)) h))
    | inr (w, inr m, p) ↦ absurd (asym (path_cmp R) paths_o (path_of y) (path_of w) (all_member (Before R y) w ys above m) (subst (λ t. PathBefore R t (path_of y)) (sym p) h))
  ]

  -- the new node stands before a node behind its origin with a smaller key
  pub stands_first : (y : Node K) → IsBehind R S x y → R y.key x.key ≡ Less → Before R x y
  stands_first y behind below = elim (tri (path_cmp R) paths_o (path_of x) (path_of y)) [
    | inl l ↦ l
    | inr (inl e) ↦ absurd (behind.without.1 (last_same y.above x.above y.key x.key (sym e)))
    | inr (inr g) ↦ absurd (asym R o x.key y.key (passed R o x.above x.key y.above y.key behind.rising behind.after g) below)
  ]

  -- The nodes behind the origin with greater keys, and then one with a smaller key: the new node goes between.
  pub lands : (front tail : List (Node K)) → IsReading R (front ++ tail) → AllByRecursion (IsBehind R S x) (front ++ tail) → IsCovered (front ++ tail)
      → AreGreater R x.key front → StartsSmaller R x.key tail → with_node R x (front ++ tail) ≡ front ++ x ∷ tail
  lands [] [] read behind cover greater below = refl
  lands [] (y ∷ tail) read behind cover greater below =
      with_node_here R o x y tail (stands_first y behind.0 below)
  lands (y ∷ front) tail read behind cover greater below =
      with_node_later R o x y (front ++ tail) stands
      ∙ ap (λ t. y ∷ t) (lands front tail read.1 behind.1 less greater.1 below)
    where
      stands : Before R y x
      stands = elim (tri (path_cmp R) paths_o (path_of x) (path_of y)) [
        | inl l ↦ absurd (asym R o x.key y.key greater.0 (first_behind R o x.above x.key y.above y.key S closed rise behind.0.without.0 behind.0.here (between y (front ++ tail) read.0 cover) l))
        | inr (inl e) ↦ absurd (behind.0.without.1 (last_same y.above x.above y.key x.key (sym e)))
        | inr (inr g) ↦ g
      ]

      less : IsCovered (front ++ tail)
      less z s = elim (cover z s) [
        | inl b ↦ inl b
        | inr (w, inl e, p) ↦ inl (subst (λ t. PathBefore R t (path_of x)) (ap path_of e ∙ p) stands)
        | inr (w, inr m, p) ↦ inr (w, m, p)
      ]
