-- Where a run of characters lands in a document.
use Rattle.std.proofs.Common.{◌≡◌, ℕ, ◌+◌, ◌≤◌, List, [], ◌∷◌, ◌++◌, refl, sym, ap, subst, ◌∙◌, inl, inr, ◌⊎◌, arith, Ordering, append_assoc}
use Rattle.std.specs.List.{AllByRecursion}
use Rattle.braid_tree.specs.Paths.{path_cmp, PathBefore}
use Rattle.braid_tree.specs.Nodes.{Node, path_of, Before, IsReading, with_node, with_nodes, run}
use Rattle.braid_tree.specs.Trees.{Member, HasPath, RisesToKey, IsWithout, IsTree, EndsAt, AreGreater, StartsSmaller}
use Rattle.braid_tree.proofs.Member.{all_member, all_from_members, member_append_left, member_append_right, member_append_cases}
use Rattle.braid_tree.proofs.Order.{IsStrict, below_trans, paths_strict, before_cons, before_head, before_tail}
use Rattle.braid_tree.proofs.Landing.{before_below, before_root, root_before}
use Rattle.braid_tree.proofs.Placing.{IsBehind, lands, with_node_here, with_node_later, with_node_front}

module _ {K : Type 0} (R : K → K → Ordering) (o : IsStrict R) where
  -- in a reading, what stands to the left stands before what stands to the right
  pub reading_across : (xs : List (Node K)) (x : Node K) (ys : List (Node K)) → IsReading R (xs ++ x ∷ ys) → AllByRecursion (λ (y : Node K). Before R y x) xs × AllByRecursion (Before R x) ys
  reading_across [] x ys h = (tt, h.0)
  reading_across (w ∷ xs) x ys h = ((all_member (Before R w) x (xs ++ x ∷ ys) h.0 (member_append_right x xs (x ∷ ys) (inl refl)), (reading_across xs x ys h.1).0), (reading_across xs x ys h.1).1)

  -- below a node that stands before q and is not on q's path everything stands before q
  pub under_before : (p : List K) (k : K) (r q : List K) → AllByRecursion (λ (b : K). (b ≡ k) → ⊥) q → PathBefore R (p ++ k ∷ []) q → PathBefore R (p ++ k ∷ r) q
  under_before p k r [] fresh h = absurd (before_root R o (p ++ k ∷ []) h)
  under_before [] k r (b ∷ q) fresh h = elim (before_cons R o k b [] q h) [ inl l ↦ before_head R o k b r q l | inr e ↦ absurd (fresh.0 (sym e.0)) ]
  under_before (a ∷ p) k r (b ∷ q) fresh h = elim (before_cons R o a b (p ++ k ∷ []) q h) [
    | inl l ↦ before_head R o a b (p ++ k ∷ r) q l
    | inr e ↦ subst (λ w. PathBefore R (a ∷ (p ++ k ∷ r)) (w ∷ q)) e.0 (before_tail R o a (p ++ k ∷ r) q (under_before p k r q fresh.1 e.1))
  ]

  whole_path : (k : K) (y : Node K) → IsWithout k y → AllByRecursion (λ (b : K). (b ≡ k) → ⊥) (path_of y)
  whole_path k y w = go y.above w.0
    where
      go : (p : List K) → AllByRecursion (λ (b : K). (b ≡ k) → ⊥) p → AllByRecursion (λ (b : K). (b ≡ k) → ⊥) (p ++ y.key ∷ [])
      go [] all = (w.1, tt)
      go (b ∷ p) all = (all.0, go p all.1)

  -- the first node, if there is one, stands behind x and has none of the keys from number k on
  abbrev pub StartsBehind : (ℕ → K) → ℕ → Node K → List (Node K) → Type 0
  StartsBehind key k x [] = Unit {0}
  StartsBehind key k x (y ∷ ys) = Before R x y × ((n : ℕ) → k ≤ n → IsWithout (key n) y)

  -- the rest of a run goes directly behind what is there of it
  pub rest_of_run : (key : ℕ → K) (k : ℕ) (cs : List ℕ) (n : ℕ) (front : List (Node K)) (x : Node K) (tail : List (Node K))
      → (m : ℕ) → x.key ≡ key m → k ≤ m → k ≤ n
      → AllByRecursion (λ (y : Node K). Before R y x) front → StartsBehind key k x tail
      → with_nodes R (run key (path_of x) n cs) (front ++ x ∷ tail) ≡ front ++ x ∷ (run key (path_of x) n cs ++ tail)
  rest_of_run key k [] n front x tail m is le up all start = refl
  rest_of_run key k (c ∷ cs) n front x tail m is le up all start =
      ap (with_nodes R (run key (path_of x ++ key n ∷ []) (n + 1) cs)) put
      ∙ ap (λ t. with_nodes R (run key (path_of x ++ key n ∷ []) (n + 1) cs) t) (sym (append_assoc front (x ∷ []) (next ∷ tail)))
      ∙ rest_of_run key k cs (n + 1) (front ++ x ∷ []) next tail n refl up (omega arith) wider (further tail start)
      ∙ append_assoc front (x ∷ []) (next ∷ (run key (path_of x ++ key n ∷ []) (n + 1) cs ++ tail))
    where
      next : Node K
      next = record { above = path_of x; key = key n; char = c }

      after : Before R x next
      after = before_below R o (path_of x) (key n) []

      far : (y : Node K) → Before R y x → Before R y next
      far y h = below_trans (path_cmp R) (paths_strict R o) (path_of y) (path_of x) (path_of next) h after

      wider : AllByRecursion (λ (y : Node K). Before R y next) (front ++ x ∷ [])
      wider = all_from_members (λ (y : Node K). Before R y next) (front ++ x ∷ []) (λ y mem. elim (member_append_cases y front (x ∷ []) mem) [
        | inl a ↦ far y (all_member (λ (y : Node K). Before R y x) y front all a)
        | inr (inl e) ↦ subst (λ (w : Node K). Before R w next) e after
        | inr (inr none) ↦ absurd none
      ])

      further : (ys : List (Node K)) → StartsBehind key k x ys → StartsBehind key k next ys
      further [] s = tt
      further (y ∷ ys) s = (
        subst (λ t. PathBefore R t (path_of y)) (sym (append_assoc x.above (x.key ∷ []) (key n ∷ [])))
            (under_before x.above x.key (key n ∷ []) (path_of y) (whole_path x.key y (subst (λ j. IsWithout j y) (sym is) (s.1 m le))) s.0),
        s.1,
      )

      first : (ys : List (Node K)) → StartsBehind key k x ys → with_node R next ys ≡ next ∷ ys
      first [] s = refl
      first (y ∷ ys) s = with_node_here R o next y ys (further (y ∷ ys) s).0

      put : with_node R next (front ++ x ∷ tail) ≡ front ++ x ∷ next ∷ tail
      put = with_node_front R o next front (x ∷ tail) (all_from_members (λ (y : Node K). Before R y next) front (λ y mem. far y (all_member (λ (y : Node K). Before R y x) y front all mem)))
          ∙ ap (λ t. front ++ t) (with_node_later R o next x tail after ∙ ap (λ t. x ∷ t) (first tail start))

  -- nodes before the origin, or at it, stand before the new one
  pub before_new : (front : List (Node K)) (x : Node K) → IsReading R front → EndsAt front x.above → AllByRecursion (λ (y : Node K). Before R y x) front
  before_new front x read (inl (e, f)) = subst (λ t. AllByRecursion (λ (y : Node K). Before R y x) t) (sym e) tt
  before_new front x read (inr (before, origin, e, f)) = all_from_members (λ (y : Node K). Before R y x) front (λ y m. stands y (subst (Member y) e m))
    where
      at : Before R origin x
      at = subst (λ t. PathBefore R (path_of origin) (t ++ x.key ∷ [])) f (before_below R o (path_of origin) x.key [])

      across : AllByRecursion (λ (y : Node K). Before R y origin) before
      across = (reading_across before origin [] (subst (IsReading R) e read)).0

      stands : (y : Node K) → Member y (before ++ origin ∷ []) → Before R y x
      stands y m = elim (member_append_cases y before (origin ∷ []) m) [
        | inl a ↦ below_trans (path_cmp R) (paths_strict R o) (path_of y) (path_of origin) (path_of x) (all_member (λ (y : Node K). Before R y origin) y before across a) at
        | inr (inl g) ↦ subst (λ (w : Node K). Before R w x) g at
        | inr (inr none) ↦ absurd none
      ]

  pub reading_front : (xs ys : List (Node K)) → IsReading R (xs ++ ys) → IsReading R xs
  reading_front [] ys h = tt
  reading_front (x ∷ xs) ys h = (all_from_members (Before R x) xs (λ y m. all_member (Before R x) y (xs ++ ys) h.0 (member_append_left y xs ys m)), reading_front xs ys h.1)

  reading_back : (xs ys : List (Node K)) → IsReading R (xs ++ ys) → IsReading R ys
  reading_back [] ys h = h
  reading_back (x ∷ xs) ys h = reading_back xs ys h.1

  -- what follows the origin stands behind it
  pub after_origin : (front : List (Node K)) (above : List K) (rest : List (Node K)) → IsReading R (front ++ rest) → EndsAt front above → (y : Node K) → Member y rest → PathBefore R above (path_of y)
  after_origin front above rest read (inl (e, f)) y m = subst (λ t. PathBefore R t (path_of y)) (sym f) (root_before R o y.above y.key)
  after_origin front above rest read (inr (before, origin, e, f)) y m =
      subst (λ t. PathBefore R t (path_of y)) f (all_member (Before R origin) y rest ((reading_across before origin rest (subst (λ t. IsReading R t) (ap (λ t. t ++ rest) e ∙ append_assoc before (origin ∷ []) rest) read)).1) m)

  -- A new node behind its origin, past the nodes with greater keys, is put in order.
  pub node_lands : (x : Node K) (front over tail : List (Node K)) → IsTree R (front ++ (over ++ tail)) → RisesToKey R x → AllByRecursion (IsWithout x.key) (front ++ (over ++ tail))
      → EndsAt front x.above → AreGreater R x.key over → StartsSmaller R x.key tail
      → with_node R x (front ++ (over ++ tail)) ≡ front ++ (over ++ x ∷ tail)
  node_lands x front over tail tree rising fresh ends greater below =
      with_node_front R o x front (over ++ tail) fronts
      ∙ ap (λ t. front ++ t) (lands R o S tree.closed x rising over tail (reading_back front (over ++ tail) tree.reading) behind cover greater below)
    where
      d : List (Node K)
      d = front ++ (over ++ tail)

      S : List K → Type 0
      S = HasPath d

      fronts : AllByRecursion (λ (y : Node K). Before R y x) front
      fronts = before_new front x (reading_front front (over ++ tail) tree.reading) ends

      behind : AllByRecursion (IsBehind R S x) (over ++ tail)
      behind = all_from_members (IsBehind R S x) (over ++ tail) (λ y m. record {
        rising = all_member (RisesToKey R) y d tree.rising (member_append_right y front (over ++ tail) m);
        without = all_member (IsWithout x.key) y d fresh (member_append_right y front (over ++ tail) m);
        after = after_origin front x.above (over ++ tail) tree.reading ends y m;
        here = (y, member_append_right y front (over ++ tail) m, refl);
      })

      cover : (z : List K) → S z → PathBefore R z (path_of x) ⊎ ((y : Node K) × Member y (over ++ tail) × (path_of y ≡ z))
      cover z (y, m, p) = elim (member_append_cases y front (over ++ tail) m) [
        | inl a ↦ inl (subst (λ t. PathBefore R t (path_of x)) p (all_member (λ (y : Node K). Before R y x) y front fronts a))
        | inr b ↦ inr (y, b, p)
      ]
