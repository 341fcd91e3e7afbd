-- What a document keeps when nodes are put in order, and that its nodes determine it.
use Rattle.std.proofs.Common.{◌≡◌, ℕ, ◌+◌, ◌≤◌, List, [], ◌∷◌, ◌++◌, refl, sym, ap, subst, ◌∙◌, inl, inr, ◌⊎◌, arith, Less, Equal, Ordering, append_assoc}
use Rattle.std.specs.List.{AllByRecursion}
use Rattle.std.proofs.lemmas.Cmp.{tied_itself}
use Rattle.braid_tree.specs.Paths.{path_cmp}
use Rattle.braid_tree.specs.Nodes.{Node, path_of, Before, IsReading, with_node, with_nodes, run}
use Rattle.braid_tree.specs.Trees.{Member, HasPath, RisesToKey, IsWithout, AreDistinct, IsTree, EndsAt, AreGreater, StartsSmaller, AreRisingKeys, AreNewKeys}
use Rattle.braid_tree.proofs.Member.{all_member, all_from_members, last_same, member_append_right}
use Rattle.braid_tree.proofs.Order.{IsStrict, irrefl, asym, below_trans, tri, paths_strict}
use Rattle.braid_tree.proofs.Placing.{with_node_here, with_node_later}
use Rattle.braid_tree.proofs.Runs.{node_lands, rest_of_run, StartsBehind, reading_across}

-- a path that ends in k, cut after b: b is that end, or the rest is cut so
pub cut_path : {A : Type 0} (a : List A) (b : A) (r p : List A) (k : A) → a ++ b ∷ r ≡ p ++ k ∷ [] → (a ++ b ∷ [] ≡ p ++ k ∷ []) ⊎ ((s : List A) × (p ≡ a ++ b ∷ s))
cut_path a b [] p k h = inl h
cut_path [] b (c ∷ r) [] k h = cc
cut_path [] b (c ∷ r) (x ∷ p) k h = let e : x ≡ b = cc in inr (p, ap (λ t. t ∷ p) e)
cut_path (y ∷ []) b (c ∷ r) [] k h = cc
cut_path (y ∷ (z ∷ a)) b (c ∷ r) [] k h = cc
cut_path (y ∷ a) b (c ∷ r) (x ∷ p) k h =
    let e : x ≡ y = cc in
    elim (cut_path a b (c ∷ r) p k cc) [
      | inl g ↦ inl (let f : y ∷ (a ++ b ∷ []) ≡ x ∷ (p ++ k ∷ []) = cc in f)
      | inr (s, f) ↦ inr (s, let g : x ∷ p ≡ y ∷ (a ++ b ∷ s) = cc in g)
    ]

module _ {K : Type 0} (R : K → K → Ordering) (o : IsStrict R) where
  paths_o : IsStrict (path_cmp R)
  paths_o = paths_strict R o

  -- either way a node is put: first, or behind the first
  split_node : (x y : Node K) (ys : List (Node K)) → (with_node R x (y ∷ ys) ≡ x ∷ y ∷ ys) × Before R x y ⊎ (with_node R x (y ∷ ys) ≡ y ∷ with_node R x ys) × (Before R y x ⊎ (path_of y ≡ path_of x))
  split_node x y ys = elim (tri (path_cmp R) paths_o (path_of x) (path_of y)) [
    | inl l ↦ inl (with_node_here R o x y ys l, l)
    | inr (inl e) ↦ inr (rw (tied e), inr (sym e))
    | inr (inr g) ↦ inr (with_node_later R o x y ys g, inl g)
  ]
    where
      tied : path_of x ≡ path_of y → path_cmp R (path_of x) (path_of y) ≡ Equal
      tied e = subst (λ t. path_cmp R (path_of x) t ≡ Equal) e (tied_itself paths_o.total (path_of x))

  pub member_from_with : (z x : Node K) (d : List (Node K)) → Member z (with_node R x d) → (x ≡ z) ⊎ Member z d
  member_from_with z x [] m = m
  member_from_with z x (y ∷ ys) m = elim (split_node x y ys) [
    | inl (e, l) ↦ subst (Member z) e m
    | inr (e, g) ↦ back (member_from_with z x ys) (subst (Member z) e m)
  ]
    where
      back : (Member z (with_node R x ys) → (x ≡ z) ⊎ Member z ys) → Member z (y ∷ with_node R x ys) → (x ≡ z) ⊎ Member z (y ∷ ys)
      back ih (inl e) = inr (inl e)
      back ih (inr m) = elim (ih m) [ inl e ↦ inl e | inr n ↦ inr (inr n) ]

  pub member_with_old : (z x : Node K) (d : List (Node K)) → Member z d → Member z (with_node R x d)
  member_with_old z x [] m = absurd m
  member_with_old z x (y ∷ ys) m = elim (split_node x y ys) [
    | inl (e, l) ↦ subst (Member z) (sym e) (inr m)
    | inr (e, g) ↦ subst (Member z) (sym e) (go (member_with_old z x ys) m)
  ]
    where
      go : (Member z ys → Member z (with_node R x ys)) → Member z (y ∷ ys) → Member z (y ∷ with_node R x ys)
      go ih (inl e) = inl e
      go ih (inr m) = inr (ih m)

  pub member_with_new : (x : Node K) (d : List (Node K)) → Member x (with_node R x d)
  member_with_new x [] = inl refl
  member_with_new x (y ∷ ys) = elim (split_node x y ys) [
    | inl (e, l) ↦ subst (Member x) (sym e) (inl refl)
    | inr (e, g) ↦ subst (Member x) (sym e) (inr (member_with_new x ys))
  ]

  -- a node whose path is new leaves a reading
  pub reading_with : (x : Node K) (d : List (Node K)) → IsReading R d → (HasPath d (path_of x) → ⊥) → IsReading R (with_node R x d)
  reading_with x [] read fresh = (tt, tt)
  reading_with x (y ∷ ys) read fresh = elim (split_node x y ys) [
    | inl (e, l) ↦ subst (IsReading R) (sym e) ((l, all_from_members (Before R x) ys (λ z m. below_trans (path_cmp R) paths_o (path_of x) (path_of y) (path_of z) l (all_member (Before R y) z ys read.0 m))), read)
    | inr (e, inr g) ↦ absurd (fresh (y, inl refl, g))
    | inr (e, inl g) ↦ subst (IsReading R) (sym e) (
      all_from_members (Before R y) (with_node R x ys) (λ z m. elim (member_from_with z x ys m) [
        | inl f ↦ subst (λ (w : Node K). Before R y w) f g
        | inr n ↦ all_member (Before R y) z ys read.0 n
      ]),
      reading_with x ys read.1 (λ (z, m, p). fresh (z, inr m, p)),
    )
  ]

  pub no_path : (x : Node K) (d : List (Node K)) → AllByRecursion (IsWithout x.key) d → HasPath d (path_of x) → ⊥
  no_path x d fresh (y, m, p) = (all_member (IsWithout x.key) y d fresh m).1 (last_same y.above x.above y.key x.key p)

  distinct_with : (x : Node K) (d : List (Node K)) → AreDistinct d → AllByRecursion (IsWithout x.key) d → AreDistinct (with_node R x d)
  distinct_with x [] a fresh = (tt, tt)
  distinct_with x (y ∷ ys) a fresh = elim (split_node x y ys) [
    | inl (e, l) ↦ subst AreDistinct (sym e) ((fresh.0.1, all_from_members (λ (z : Node K). (z.key ≡ x.key) → ⊥) ys (λ z m. (all_member (IsWithout x.key) z ys fresh.1 m).1)), a)
    | inr (e, g) ↦ subst AreDistinct (sym e) (
      all_from_members (λ (z : Node K). (z.key ≡ y.key) → ⊥) (with_node R x ys) (λ z m. elim (member_from_with z x ys m) [
        | inl f ↦ (λ same. fresh.0.1 (sym same ∙ ap (λ (t : Node K). t.key) (sym f)))
        | inr n ↦ all_member (λ (z : Node K). (z.key ≡ y.key) → ⊥) z ys a.0 n
      ]),
      distinct_with x ys a.1 fresh.1,
    )
  ]

  -- a new node below the root or a node of the tree leaves a tree
  pub tree_with : (x : Node K) (d : List (Node K)) → IsTree R d → RisesToKey R x → AllByRecursion (IsWithout x.key) d → (x.above ≡ []) ⊎ HasPath d x.above → IsTree R (with_node R x d)
  tree_with x d tree rising fresh origin = record {
    reading = reading_with x d tree.reading (no_path x d fresh);
    rising = all_from_members (RisesToKey R) (with_node R x d) (λ y m. elim (member_from_with y x d m) [
      | inl e ↦ subst (RisesToKey R) e rising
      | inr n ↦ all_member (RisesToKey R) y d tree.rising n
    ]);
    distinct = distinct_with x d tree.distinct fresh;
    closed = λ a b r (y, m, p). elim (member_from_with y x d m) [
      | inl e ↦ new a b r (ap path_of e ∙ p)
      | inr n ↦ wider (tree.closed a b r (y, n, p))
    ];
  }
    where
      wider : {z : List K} → HasPath d z → HasPath (with_node R x d) z
      wider (y, m, p) = (y, member_with_old y x d m, p)

      new : (a : List K) (b : K) (r : List K) → path_of x ≡ a ++ b ∷ r → HasPath (with_node R x d) (a ++ b ∷ [])
      new a b r e = elim (cut_path a b r x.above x.key (sym e)) [
        | inl g ↦ (x, member_with_new x d, sym g)
        | inr (s, g) ↦ elim origin [
          | inl root ↦ absurd (none a b s (sym g ∙ root))
          | inr h ↦ wider (tree.closed a b s (subst (HasPath d) g h))
        ]
      ]
        where
          none : (a : List K) (b : K) (s : List K) → a ++ b ∷ s ≡ [] → ⊥
          none [] b s h = cc
          none (y ∷ a) b s h = cc

  -- two readings with the same nodes are one list
  pub same_reading : (xs ys : List (Node K)) → IsReading R xs → IsReading R ys → ((z : Node K) → Member z xs → Member z ys) → ((z : Node K) → Member z ys → Member z xs) → xs ≡ ys
  same_reading [] [] rx ry f g = refl
  same_reading [] (y ∷ ys) rx ry f g = absurd (g y (inl refl))
  same_reading (x ∷ xs) [] rx ry f g = absurd (f x (inl refl))
  same_reading (x ∷ xs) (y ∷ ys) rx ry f g =
      let e : x ≡ y = head in
      let t : xs ≡ ys = same_reading xs ys rx.1 ry.1 (λ z m. tail_f z m) (λ z m. tail_g z m) in cc
    where
      head : x ≡ y
      head = elim (f x (inl refl)) [
        | inl e ↦ sym e
        | inr m ↦ elim (g y (inl refl)) [
          | inl e ↦ e
          | inr n ↦ absurd (asym (path_cmp R) paths_o (path_of x) (path_of y) (all_member (Before R x) y xs rx.0 n) (all_member (Before R y) x ys ry.0 m))
        ]
      ]

      tail_f : (z : Node K) → Member z xs → Member z ys
      tail_f z m = elim (f z (inr m)) [
        | inl e ↦ absurd (irrefl (path_cmp R) paths_o (path_of x) (subst (λ (w : Node K). Before R x w) (sym e ∙ sym head) (all_member (Before R x) z xs rx.0 m)))
        | inr n ↦ n
      ]

      tail_g : (z : Node K) → Member z ys → Member z xs
      tail_g z m = elim (g z (inr m)) [
        | inl e ↦ absurd (irrefl (path_cmp R) paths_o (path_of y) (subst (λ (w : Node K). Before R y w) (sym e ∙ head) (all_member (Before R y) z ys ry.0 m)))
        | inr n ↦ n
      ]

  pub rising_next : (x : Node K) (k : K) (c : ℕ) → RisesToKey R x → R x.key k ≡ Less → RisesToKey R (record { above = path_of x; key = k; char = c })
  rising_next x k c rise h = go x.above rise
    where
      go : (p : List K) → AllByRecursion (λ (b : K). R b x.key ≡ Less) p → AllByRecursion (λ (b : K). R b k ≡ Less) (p ++ x.key ∷ [])
      go [] all = (h, tt)
      go (b ∷ p) all = (below_trans R o b x.key k all.0 h, go p all.1)

  pub new_with : (key : ℕ → K) → AreRisingKeys R key → (n : ℕ) (x : Node K) (d : List (Node K)) → RisesToKey R x → x.key ≡ key n → AreNewKeys key n d → AreNewKeys key (n + 1) (with_node R x d)
  new_with key rise n x d up is new m le = all_from_members (IsWithout (key m)) (with_node R x d) (λ y mem. elim (member_from_with y x d mem) [
    | inl e ↦ subst (IsWithout (key m)) e (
      all_from_members (λ (b : K). (b ≡ key m) → ⊥) x.above (λ b mb same. asym R o b x.key (all_member (λ (b : K). R b x.key ≡ Less) b x.above up mb) (subst (λ t. R x.key t ≡ Less) (sym same) here)),
      λ same. irrefl R o x.key (subst (λ t. R x.key t ≡ Less) (sym same) here),
    )
    | inr n' ↦ all_member (IsWithout (key m)) y d (new m (omega arith)) n'
  ])
    where
      here : R x.key (key m) ≡ Less
      here = subst (λ t. R t (key m) ≡ Less) (sym is) (rise n m (omega arith))

  -- a run below the root or a node of the tree leaves a tree
  pub tree_with_run : (key : ℕ → K) → AreRisingKeys R key → (cs : List ℕ) (above : List K) (n : ℕ) (d : List (Node K)) → IsTree R d → AreNewKeys key n d
      → (above ≡ []) ⊎ HasPath d above → AllByRecursion (λ (b : K). R b (key n) ≡ Less) above → IsTree R (with_nodes R (run key above n cs) d)
  tree_with_run key rise [] above n d tree new origin up = tree
  tree_with_run key rise (c ∷ cs) above n d tree new origin up =
      tree_with_run key rise cs (above ++ key n ∷ []) (n + 1) (with_node R x d) (tree_with x d tree up (new n (omega arith)) origin) (new_with key rise n x d up refl new)
      (inr (x, member_with_new x d, refl)) (rising_next x (key (n + 1)) c up (rise n (n + 1) (omega arith)))
    where
      x : Node K
      x = record { above = above; key = key n; char = c }

  -- A run lands behind its origin, past the nodes with keys greater than its first.
  pub run_lands : (key : ℕ → K) → AreRisingKeys R key → (cs : List ℕ) (above : List K) (n : ℕ) (front over tail : List (Node K)) → IsTree R (front ++ (over ++ tail)) → AreNewKeys key n (front ++ (over ++ tail))
      → EndsAt front above → AllByRecursion (λ (b : K). R b (key n) ≡ Less) above
      → AreGreater R (key n) over → StartsSmaller R (key n) tail
      → with_nodes R (run key above n cs) (front ++ (over ++ tail)) ≡ front ++ (over ++ (run key above n cs ++ tail))
  run_lands key rise [] above n front over tail tree new ends up greater below = refl
  run_lands key rise (c ∷ cs) above n front over tail tree new ends up greater below =
      ap (with_nodes R rest) (put ∙ sym (append_assoc front over (x ∷ tail)))
      ∙ rest_of_run R o key n cs (n + 1) (front ++ over) x tail n refl (omega arith) (omega arith) across.0 (start tail across.1 others)
      ∙ append_assoc front over (x ∷ (rest ++ tail))
    where
      x : Node K
      x = record { above = above; key = key n; char = c }

      rest : List (Node K)
      rest = run key (above ++ key n ∷ []) (n + 1) cs

      put : with_node R x (front ++ (over ++ tail)) ≡ front ++ (over ++ x ∷ tail)
      put = node_lands R o x front over tail tree up (new n (omega arith)) ends greater below

      read : IsReading R ((front ++ over) ++ x ∷ tail)
      read = subst (IsReading R) (put ∙ sym (append_assoc front over (x ∷ tail))) (reading_with x (front ++ (over ++ tail)) tree.reading (no_path x (front ++ (over ++ tail)) (new n (omega arith))))

      across : AllByRecursion (λ (y : Node K). Before R y x) (front ++ over) × AllByRecursion (Before R x) tail
      across = reading_across R o (front ++ over) x tail read

      others : (m : ℕ) → n ≤ m → (y : Node K) → Member y tail → IsWithout (key m) y
      others m le y mem = all_member (IsWithout (key m)) y (front ++ (over ++ tail)) (new m le) (member_append_right y front (over ++ tail) (member_append_right y over tail mem))

      start : (ys : List (Node K)) → AllByRecursion (Before R x) ys → ((m : ℕ) → n ≤ m → (y : Node K) → Member y ys → IsWithout (key m) y) → StartsBehind R o key n x ys
      start [] all oth = tt
      start (y ∷ ys) all oth = (all.0, λ m le. oth m le y (inl refl))
