-- What the public laws say beyond the lemmas on orders, landing and trees.
use Rattle.std.proofs.Common.{◌≡◌, ◌↔◌, ◌⊎◌, ℕ, zero, suc, ◌+◌, ◌≤◌, length, length-append, map, arith, List, [], ◌∷◌, ◌++◌, Some, None, refl, sym, ap, subst, ◌∙◌, inl, inr, Less, append_assoc}
use Rattle.braid_tree.specs.Keys.{Key, key_cmp}
use Rattle.braid_tree.specs.Paths.{PathBefore}
use Rattle.braid_tree.specs.Nodes.{Node, path_of, Before, with_node, with_nodes}
use Rattle.braid_tree.specs.Trees.{Member, HasPath, RisesToKey, IsTree, AreDistinct}
use Rattle.braid_tree.specs.Elements.{Element, element_of, last_key, IsListedOrigin}
use Rattle.braid_tree.proofs.Order.{asym, irrefl, before_cons, before_head, before_tail}
use Rattle.braid_tree.proofs.Landing.{before_root}
use Rattle.braid_tree.proofs.Member.{all_member, member_append_right, last_same, front_same}
use Rattle.braid_tree.proofs.Keys.{keys_strict}
use Rattle.braid_tree.proofs.Kept.{member_from_with, member_with_old, member_with_new}

-- nodes with one origin stand by falling key
pub siblings_fall : (x y : Node Key) → x.above ≡ y.above → key_cmp y.key x.key ≡ Less → Before key_cmp x y
siblings_fall x y e h = subst (λ p. PathBefore key_cmp (x.above ++ x.key ∷ []) (p ++ y.key ∷ [])) e (go x.above)
  where
    go : (p : List Key) → PathBefore key_cmp (p ++ x.key ∷ []) (p ++ y.key ∷ [])
    go [] = before_head key_cmp keys_strict x.key y.key [] [] h
    go (k ∷ p) = before_tail key_cmp keys_strict k (p ++ x.key ∷ []) (p ++ y.key ∷ []) (go p)

-- between two paths that begin with p stand only such paths
pub between_two : (p a c q : List Key) → PathBefore key_cmp (p ++ a) q → PathBefore key_cmp q (p ++ c) → (b : List Key) × (q ≡ p ++ b)
between_two [] a c q h l = (q, refl)
between_two (k ∷ p) a c [] h l = absurd (before_root key_cmp keys_strict (k ∷ (p ++ a)) h)
between_two (k ∷ p) a c (j ∷ q) h l =
    elim (before_cons key_cmp keys_strict k j (p ++ a) q h) [
      | inl m ↦ elim (before_cons key_cmp keys_strict j k q (p ++ c) l) [
        | inl n ↦ absurd (asym key_cmp keys_strict j k m n)
        | inr e ↦ absurd (irrefl key_cmp keys_strict j (subst (λ z. key_cmp j z ≡ Less) (sym e.0) m))
      ]
      | inr e ↦ elim (before_cons key_cmp keys_strict j k q (p ++ c) l) [
        | inl n ↦ absurd (irrefl key_cmp keys_strict k (subst (λ z. key_cmp k z ≡ Less) (sym e.0) n))
        | inr f ↦ wider (between_two p a c q e.1 f.1) e.0
      ]
    ]
  where
    wider : (b : List Key) × (q ≡ p ++ b) → k ≡ j → (b : List Key) × (j ∷ q ≡ (k ∷ p) ++ b)
    wider (b, e) f = (b, cc)

-- nodes that are put in order are there, beside those that were
pub with_nodes_members : (xs d : List (Node Key)) (z : Node Key) → Member z (with_nodes key_cmp xs d) ↔ (Member z xs ⊎ Member z d)
with_nodes_members [] d z = (λ m. inr m, λ s. elim s [ inl none ↦ absurd none | inr m ↦ m ])
with_nodes_members (x ∷ xs) d z = step (with_nodes_members xs (with_node key_cmp x d) z)
  where
    step : Member z (with_nodes key_cmp xs (with_node key_cmp x d)) ↔ (Member z xs ⊎ Member z (with_node key_cmp x d))
        → Member z (with_nodes key_cmp xs (with_node key_cmp x d)) ↔ (Member z (x ∷ xs) ⊎ Member z d)
    step ih = (
      λ m. elim (ih.0 m) [
        | inl n ↦ inl (inr n)
        | inr n ↦ elim (member_from_with key_cmp keys_strict z x d n) [ inl e ↦ inl (inl e) | inr o ↦ inr o ]
      ],
      λ s. ih.1 (elim s [
        | inl (inl e) ↦ inr (subst (λ (w : Node Key). Member w (with_node key_cmp x d)) e (member_with_new key_cmp keys_strict x d))
        | inl (inr n) ↦ inl n
        | inr n ↦ inr (member_with_old key_cmp keys_strict z x d n)
      ]),
    )

-- a path with a last key ends in it
pub last_key-end : (p : List Key) (k : Key) → last_key (p ++ k ∷ []) ≡ Some k
last_key-end [] k = refl
last_key-end (j ∷ []) k = refl
last_key-end (j ∷ (i ∷ p)) k = last_key-end (i ∷ p) k

-- a path is empty, or ends in a key
split_end : (p : List Key) → (p ≡ []) ⊎ ((q : List Key) × (k : Key) × (p ≡ q ++ k ∷ []))
split_end [] = inl refl
split_end (j ∷ p) = inr (elim (split_end p) [
  | inl e ↦ ([], j, ap (λ t. j ∷ t) e)
  | inr (q, k, e) ↦ (j ∷ q, k, ap (λ t. j ∷ t) e)
])

pub origin_listed : (d : List (Node Key)) → IsTree key_cmp d → (x : Node Key) → Member x d → IsListedOrigin d x (element_of x).origin
origin_listed d tree x m = elim (split_end x.above) [
  | inl e ↦ subst (IsListedOrigin d x) (sym (ap last_key e)) e
  | inr (q, k, e) ↦ subst (IsListedOrigin d x) (sym (ap last_key e ∙ last_key-end q k)) (found q k e (tree.closed q k (x.key ∷ []) (x, m, ap (λ t. t ++ x.key ∷ []) e ∙ append_assoc q (k ∷ []) (x.key ∷ []))))
]
  where
    smaller : (q : List Key) (k : Key) → x.above ≡ q ++ k ∷ [] → key_cmp k x.key ≡ Less
    smaller q k e = all_member (λ (b : Key). key_cmp b x.key ≡ Less) k x.above (all_member (RisesToKey key_cmp) x d tree.rising m) (subst (Member k) (sym e) (member_append_right k q (k ∷ []) (inl refl)))

    found : (q : List Key) (k : Key) → x.above ≡ q ++ k ∷ [] → HasPath d (q ++ k ∷ []) → (y : Node Key) × Member y d × (y.key ≡ k) × (path_of y ≡ x.above) × (key_cmp k x.key ≡ Less)
    found q k e (y, n, p) = (y, n, last_same y.above q y.key k p, p ∙ sym e, smaller q k e)

-- two nodes at one number of two lists
abbrev ArePaired : List (Node Key) → List (Node Key) → Node Key → Node Key → Type 0
ArePaired [] e x x' = ⊥
ArePaired (y ∷ d) [] x x' = ⊥
ArePaired (y ∷ d) (z ∷ e) x x' = ((y ≡ x) × (z ≡ x')) ⊎ ArePaired d e x x'

pair_same : (d e : List (Node Key)) (x x' : Node Key) → map element_of d ≡ map element_of e → ArePaired d e x x' → element_of x ≡ element_of x'
pair_same [] e x x' same p = absurd p
pair_same (y ∷ d) [] x x' same p = absurd p
pair_same (y ∷ d) (z ∷ e) x x' same (inl (f, g)) = let h : element_of y ≡ element_of z = cc in ap element_of (sym f) ∙ h ∙ ap element_of g
pair_same (y ∷ d) (z ∷ e) x x' same (inr p) = pair_same d e x x' (cc) p

pair_left : (d e : List (Node Key)) (x x' : Node Key) → ArePaired d e x x' → Member x d
pair_left [] e x x' p = absurd p
pair_left (y ∷ d) [] x x' p = absurd p
pair_left (y ∷ d) (z ∷ e) x x' (inl (f, g)) = inl f
pair_left (y ∷ d) (z ∷ e) x x' (inr p) = inr (pair_left d e x x' p)

pair_right : (d e : List (Node Key)) (x x' : Node Key) → ArePaired d e x x' → Member x' e
pair_right [] e x x' p = absurd p
pair_right (y ∷ d) [] x x' p = absurd p
pair_right (y ∷ d) (z ∷ e) x x' (inl (f, g)) = inl g
pair_right (y ∷ d) (z ∷ e) x x' (inr p) = inr (pair_right d e x x' p)

pair_of : (d e : List (Node Key)) (x : Node Key) → map element_of d ≡ map element_of e → Member x d → (x' : Node Key) × ArePaired d e x x'
pair_of [] e x same m = absurd m
pair_of (y ∷ d) [] x same m = cc
pair_of (y ∷ d) (z ∷ e) x same (inl f) = (z, inl (f, refl))
pair_of (y ∷ d) (z ∷ e) x same (inr m) = let p = pair_of d e x (cc) m in (p.0, inr p.1)

-- in a list with different keys a key names one node
one_of_key : (d : List (Node Key)) → AreDistinct d → (x y : Node Key) → Member x d → Member y d → x.key ≡ y.key → x ≡ y
one_of_key [] own x y m n e = absurd m
one_of_key (z ∷ d) own x y (inl f) (inl g) e = sym f ∙ g
one_of_key (z ∷ d) own x y (inl f) (inr n) e = absurd (all_member (λ (w : Node Key). (w.key ≡ z.key) → ⊥) y d own.0 n (sym e ∙ sym (ap (λ (w : Node Key). w.key) f)))
one_of_key (z ∷ d) own x y (inr m) (inl g) e = absurd (all_member (λ (w : Node Key). (w.key ≡ z.key) → ⊥) x d own.0 m (e ∙ sym (ap (λ (w : Node Key). w.key) g)))
one_of_key (z ∷ d) own x y (inr m) (inr n) e = one_of_key d own.1 x y m n e

-- the node that a path's end is, one step up
up_one : (d : List (Node Key)) → IsTree key_cmp d → (x : Node Key) → Member x d → (q : List Key) (k : Key) → x.above ≡ q ++ k ∷ [] → (y : Node Key) × Member y d × (y.above ≡ q) × (y.key ≡ k)
up_one d tree x m q k e = let p = tree.closed q k (x.key ∷ []) (x, m, ap (λ t. t ++ x.key ∷ []) e ∙ append_assoc q (k ∷ []) (x.key ∷ [])) in
    (p.0, p.1, front_same p.0.above q p.0.key k p.2, last_same p.0.above q p.0.key k p.2)

module _ (d e : List (Node Key)) (tree_d : IsTree key_cmp d) (tree_e : IsTree key_cmp e) (same : map element_of d ≡ map element_of e) where
  origin_same : (x x' : Node Key) → ArePaired d e x x' → last_key x.above ≡ last_key x'.above
  origin_same x x' p = ap (λ (z : Element). z.origin) (pair_same d e x x' same p)

  -- by the length of the one path
  above_same : (n : ℕ) (x x' : Node Key) → length x.above ≤ n → ArePaired d e x x' → x.above ≡ x'.above
  above_same zero x x' le p = elim (split_end x.above) [
    | inl f ↦ root x x' p f
    | inr (q, k, f) ↦ absurd (let l : length x.above ≡ length q + 1 = ap length f ∙ length-append q (k ∷ []) in omega (arith, l, le))
  ]
    where
      root : (x x' : Node Key) → ArePaired d e x x' → x.above ≡ [] → x.above ≡ x'.above
      root x x' p f = elim (split_end x'.above) [
        | inl g ↦ f ∙ sym g
        | inr (q, k, g) ↦ absurd (let h : None ≡ Some k = sym (ap last_key f) ∙ origin_same x x' p ∙ ap last_key g ∙ last_key-end q k in cc)
      ]
  above_same (suc n) x x' le p = elim (split_end x.above) [
    | inl f ↦ root f
    | inr (q, k, f) ↦ elim (split_end x'.above) [
      | inl g ↦ absurd (let h : Some k ≡ None = sym (ap last_key f ∙ last_key-end q k) ∙ origin_same x x' p ∙ ap last_key g in cc)
      | inr (q', k', g) ↦ deeper (λ y y' l r. above_same n y y' l r) q k f q' k' g
    ]
  ]
    where
      root : x.above ≡ [] → x.above ≡ x'.above
      root f = elim (split_end x'.above) [
        | inl g ↦ f ∙ sym g
        | inr (q, k, g) ↦ absurd (let h : None ≡ Some k = sym (ap last_key f) ∙ origin_same x x' p ∙ ap last_key g ∙ last_key-end q k in cc)
      ]

      deeper : ((y y' : Node Key) → length y.above ≤ n → ArePaired d e y y' → y.above ≡ y'.above) → (q : List Key) (k : Key) → x.above ≡ q ++ k ∷ [] → (q' : List Key) (k' : Key) → x'.above ≡ q' ++ k' ∷ [] → x.above ≡ x'.above
      deeper ih q k f q' k' g =
          let h : Some k ≡ Some k' = sym (ap last_key f ∙ last_key-end q k) ∙ origin_same x x' p ∙ ap last_key g ∙ last_key-end q' k' in
          let s : k ≡ k' = cc h in
          let y = up_one d tree_d x (pair_left d e x x' p) q k f in
          let z = up_one e tree_e x' (pair_right d e x x' p) q' k' g in
          let w = pair_of d e y.0 same y.1 in
          let key_w : y.0.key ≡ w.0.key = ap (λ (t : Element). t.key) (pair_same d e y.0 w.0 same w.1) in
          let one : w.0 ≡ z.0 = one_of_key e tree_e.distinct w.0 z.0 (pair_right d e y.0 w.0 w.1) z.1 (sym key_w ∙ y.3 ∙ s ∙ sym z.3) in
          let short : length y.0.above ≤ n = (let l : length x.above ≡ length q + 1 = ap length f ∙ length-append q (k ∷ []) in let m : length y.0.above ≡ length q = ap length y.2 in omega (arith, l, m, le)) in
          let fronts : q ≡ q' = sym y.2 ∙ ih y.0 w.0 short w.1 ∙ ap (λ (t : Node Key). t.above) one ∙ z.2 in
          f ∙ ap (λ t. t ++ k ∷ []) fronts ∙ ap (λ t. q' ++ t ∷ []) s ∙ sym g

  node_same : (x x' : Node Key) → ArePaired d e x x' → x ≡ x'
  node_same x x' p =
      let a = above_same (length x.above) x x' (omega arith) p in
      let s = pair_same d e x x' same p in (λ i. record { above = a i; key = (s i).key; char = (s i).char })

same_by_pairs : (d e : List (Node Key)) → map element_of d ≡ map element_of e → ((x x' : Node Key) → ArePaired d e x x' → x ≡ x') → d ≡ e
same_by_pairs [] [] same h = refl
same_by_pairs [] (z ∷ e) same h = cc
same_by_pairs (y ∷ d) [] same h = cc
same_by_pairs (y ∷ d) (z ∷ e) same h =
    let a : y ≡ z = h y z (inl (refl, refl)) in
    let b : d ≡ e = same_by_pairs d e (cc) (λ x x' p. h x x' (inr p)) in cc

-- elements list at most one tree
pub one_tree : (d e : List (Node Key)) → IsTree key_cmp d → IsTree key_cmp e → map element_of d ≡ map element_of e → d ≡ e
one_tree d e tree_d tree_e same = same_by_pairs d e same (node_same d e tree_d tree_e same)
