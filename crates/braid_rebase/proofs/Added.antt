-- The nodes that a version adds leave a tree.
use Rattle.std.proofs.Common.{◌≡◌, ℕ, ◌<◌, ◌+◌, List, [], ◌∷◌, ◌++◌, refl, sym, subst, inl, inr, ◌⊎◌, arith, Less, take, length}
use Rattle.std.specs.List.{AllByRecursion}
use Rattle.braid_tree.specs.Keys.{Key, key_cmp, key_in}
use Rattle.braid_tree.specs.Nodes.{Node, path_of, with_node, with_nodes, run}
use Rattle.braid_change.specs.declared.patch.Patch.{Patch}
use Rattle.braid_rebase.specs.Additions.{last_path, origin_at, nodes_at, AreUnder}
use Rattle.braid_tree.specs.Trees.{Member, IsTree, HasPath, AreNewKeys}
use Rattle.braid_tree.proofs.Member.{all_member, all_from_members, member_append_cases}
use Rattle.braid_tree.proofs.Kept.{tree_with_run, member_from_with, member_with_old, member_with_new, rising_next, new_with}
use Rattle.braid_tree.proofs.Keys.{keys_strict, lower_level, run_keys_rise}
use Rattle.braid_rebase.proofs.Filtered.{take_member}

-- the origin is the root, or the path of a member
pub origin_member : (S : List (Node Key)) (s : ℕ) → (origin_at S s ≡ []) ⊎ ((z : Node Key) × Member z S × (path_of z ≡ origin_at S s))
origin_member S s = go [] (take s S) (inl refl) (λ z m. take_member z s S m)
  where
    go : (p : List Key) (xs : List (Node Key)) → ((p ≡ []) ⊎ ((z : Node Key) × Member z S × (path_of z ≡ p))) → ((z : Node Key) → Member z xs → Member z S) → (last_path p xs ≡ []) ⊎ ((z : Node Key) × Member z S × (path_of z ≡ last_path p xs))
    go p [] h sub = h
    go p (x ∷ xs) h sub = go (path_of x) xs (inr (x, sub x (inl refl), refl)) (λ z m. sub z (inr m))

pub with_nodes-append : (xs ys d : List (Node Key)) → with_nodes key_cmp (xs ++ ys) d ≡ with_nodes key_cmp ys (with_nodes key_cmp xs d)
with_nodes-append [] ys d = refl
with_nodes-append (x ∷ xs) ys d = with_nodes-append xs ys (with_node key_cmp x d)

pub member_with_nodes : (z : Node Key) (xs d : List (Node Key)) → Member z (with_nodes key_cmp xs d) → Member z xs ⊎ Member z d
member_with_nodes z [] d m = inr m
member_with_nodes z (x ∷ xs) d m = elim (member_with_nodes z xs (with_node key_cmp x d) m) [
  | inl a ↦ inl (inr a)
  | inr b ↦ elim (member_from_with key_cmp keys_strict z x d b) [ inl e ↦ inl (inl e) | inr c ↦ inr c ]
]

pub old_with_nodes : (z : Node Key) (xs d : List (Node Key)) → Member z d → Member z (with_nodes key_cmp xs d)
old_with_nodes z [] d m = m
old_with_nodes z (x ∷ xs) d m = old_with_nodes z xs (with_node key_cmp x d) (member_with_old key_cmp keys_strict z x d m)

pub new_with_nodes : (z : Node Key) (xs d : List (Node Key)) → Member z xs → Member z (with_nodes key_cmp xs d)
new_with_nodes z [] d m = absurd m
new_with_nodes z (x ∷ xs) d (inl e) = old_with_nodes z xs (with_node key_cmp x d) (subst (λ (t : Node Key). Member t (with_node key_cmp x d)) e (member_with_new key_cmp keys_strict x d))
new_with_nodes z (x ∷ xs) d (inr m) = new_with_nodes z xs (with_node key_cmp x d) m

-- after a run the further keys are still new
pub new_with_run : (level : ℕ) (id : List ℕ) (cs : List ℕ) (above : List Key) (n : ℕ) (d : List (Node Key)) → AllByRecursion (λ (b : Key). key_cmp b (key_in level id n) ≡ Less) above
    → AreNewKeys (key_in level id) n d → AreNewKeys (key_in level id) (n + length cs) (with_nodes key_cmp (run (key_in level id) above n cs) d)
new_with_run level id [] above n d up new m le = new m (omega arith)
new_with_run level id (c ∷ cs) above n d up new m le =
    new_with_run level id cs (above ++ key_in level id n ∷ []) (n + 1) (with_node key_cmp x d)
    (rising_next key_cmp keys_strict x (key_in level id (n + 1)) c up (run_keys_rise level id n (n + 1) (omega arith)))
    (new_with key_cmp keys_strict (key_in level id) (run_keys_rise level id) n x d up refl new) m (omega arith)
  where
    x : Node Key
    x = record { above = above; key = key_in level id n; char = c }

pub origin_below : (level : ℕ) (id : List ℕ) (S : List (Node Key)) (s n : ℕ) → AreUnder level S → AllByRecursion (λ (b : Key). key_cmp b (key_in level id n) ≡ Less) (origin_at S s)
origin_below level id S s n under = elim (origin_member S s) [
  | inl e ↦ subst (λ t. AllByRecursion (λ (b : Key). key_cmp b (key_in level id n) ≡ Less) t) (sym e) tt
  | inr (z, m, e) ↦ subst (λ t. AllByRecursion (λ (b : Key). key_cmp b (key_in level id n) ≡ Less) t) e
      (all_from_members (λ (b : Key). key_cmp b (key_in level id n) ≡ Less) (path_of z) (λ b mb. lower_level b (key_in level id n) (all_member (λ (b : Key). b.level < level) b (path_of z) (all_member (λ (y : Node Key). AllByRecursion (λ (b : Key). b.level < level) (path_of y)) z S under m) mb)))
]

-- the nodes of a version leave a tree, with the text's members S among its nodes
pub tree_with_nodes_at : (level : ℕ) (id : List ℕ) (S : List (Node Key)) (rs : List Patch) (n : ℕ) (d : List (Node Key)) → IsTree key_cmp d → AreNewKeys (key_in level id) n d
    → ((z : Node Key) → Member z S → Member z d) → AreUnder level S → IsTree key_cmp (with_nodes key_cmp (nodes_at (key_in level id) S n rs) d)
tree_with_nodes_at level id S [] n d tree new sub under = tree
tree_with_nodes_at level id S (r ∷ rs) n d tree new sub under =
    subst (IsTree key_cmp) (sym (with_nodes-append first (nodes_at (key_in level id) S (n + length r.text) rs) d))
    (tree_with_nodes_at level id S rs (n + length r.text) (with_nodes key_cmp first d)
    (tree_with_run key_cmp keys_strict (key_in level id) (run_keys_rise level id) r.text above n d tree new origin up)
    (new_with_run level id r.text above n d up new) (λ z m. old_with_nodes z first d (sub z m)) under)
  where
    above : List Key
    above = origin_at S r.start

    first : List (Node Key)
    first = run (key_in level id) above n r.text

    up : AllByRecursion (λ (b : Key). key_cmp b (key_in level id n) ≡ Less) above
    up = origin_below level id S r.start n under

    origin : (above ≡ []) ⊎ HasPath d above
    origin = elim (origin_member S r.start) [ inl e ↦ inl e | inr (z, m, e) ↦ inr (z, sub z m, e) ]

-- what holds of the nodes of a run: a key of the version, and only its keys and the origin's above
pub run_member : (level : ℕ) (id : List ℕ) (cs : List ℕ) (above : List Key) (n : ℕ) (P : Key → Type 0) → AllByRecursion P above → ((m : ℕ) → P (key_in level id m)) → (z : Node Key) → Member z (run (key_in level id) above n cs)
    → (z.key.id ≡ id) × (z.key.level ≡ level) × AllByRecursion P (path_of z)
run_member level id [] above n P all own z m = absurd m
run_member level id (c ∷ cs) above n P all own z (inl e) = subst (λ (t : Node Key). (t.key.id ≡ id) × (t.key.level ≡ level) × AllByRecursion P (path_of t)) e (refl, refl, snoc above (key_in level id n) all (own n))
  where
    snoc : (p : List Key) (k : Key) → AllByRecursion P p → P k → AllByRecursion P (p ++ k ∷ [])
    snoc [] k a h = (h, tt)
    snoc (b ∷ p) k a h = (a.0, snoc p k a.1 h)
run_member level id (c ∷ cs) above n P all own z (inr m) = run_member level id cs (above ++ key_in level id n ∷ []) (n + 1) P (snoc above (key_in level id n) all (own n)) own z m
  where
    snoc : (p : List Key) (k : Key) → AllByRecursion P p → P k → AllByRecursion P (p ++ k ∷ [])
    snoc [] k a h = (h, tt)
    snoc (b ∷ p) k a h = (a.0, snoc p k a.1 h)

pub nodes_member : (level : ℕ) (id : List ℕ) (S : List (Node Key)) (rs : List Patch) (n : ℕ) (P : Key → Type 0) → AllByRecursion (λ (y : Node Key). AllByRecursion P (path_of y)) S → ((m : ℕ) → P (key_in level id m)) → (z : Node Key)
    → Member z (nodes_at (key_in level id) S n rs) → (z.key.id ≡ id) × (z.key.level ≡ level) × AllByRecursion P (path_of z)
nodes_member level id S [] n P all own z m = absurd m
nodes_member level id S (r ∷ rs) n P all own z m = elim (member_append_cases z (run (key_in level id) (origin_at S r.start) n r.text) (nodes_at (key_in level id) S (n + length r.text) rs) m) [
  | inl a ↦ run_member level id r.text (origin_at S r.start) n P origin own z a
  | inr b ↦ nodes_member level id S rs (n + length r.text) P all own z b
]
  where
    origin : AllByRecursion P (origin_at S r.start)
    origin = elim (origin_member S r.start) [
      | inl e ↦ subst (λ t. AllByRecursion P t) (sym e) tt
      | inr (z, m, e) ↦ subst (λ t. AllByRecursion P t) e (all_member (λ (y : Node Key). AllByRecursion P (path_of y)) z S all m)
    ]
