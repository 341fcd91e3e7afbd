-- How many nodes and keys a version adds, which they are, and where its nodes hang.
use Rattle.std.proofs.Common.{◌≡◌, ◌↔◌, ℕ, ◌+◌, ◌-◌, ◌<◌, ◌≤◌, List, [], ◌∷◌, ◌++◌, length, take, drop, map, Some, zero, suc, refl, sym, ap, subst, ◌∙◌, inl, inr, ◌⊎◌, arith, slice_get, length-append, append_assoc}
use Rattle.std.specs.List.{Contains, flat_map}
use Rattle.std.proofs.lemmas.List.{map-append, length-map, length-take-le, length-drop}
use Rattle.std.proofs.lemmas.List.Sums.{sum_by-cons}
use Rattle.std.proofs.lemmas.List.Concat.{flat_map-cons}
use Rattle.std.proofs.lemmas.Option.{none-some, same_Some}
use Rattle.braid_change.specs.declared.patch.Patch.{Patch}
use Rattle.braid_change.specs.Splices.{AreRanges, removed, inserted}
use Rattle.braid_tree.specs.Keys.{Key, key_cmp, key_in}
use Rattle.braid_tree.specs.Nodes.{Node, path_of, run, with_nodes}
use Rattle.braid_tree.specs.Trees.{Member, IsTree, AreNewKeys}
use Rattle.braid_tree.proofs.Member.{member_append_left, member_append_right, member_append_cases}
use Rattle.braid_rebase.specs.Additions.{char_of, key_of, chars_of, last_path, origin_at, nodes_at, deleted_at, IsDeletedAt, AreUnder, added_nodes, ranges_at}
use Rattle.braid_rebase.proofs.Splice.{run_text}
use Rattle.braid_rebase.proofs.Members.{contains_member, member_contains}
use Rattle.braid_rebase.proofs.Added.{tree_with_nodes_at}
use Rattle.braid_change.specs.declared.change.Change.{Change}

length_run : (key : ℕ → Key) (above : List Key) (n : ℕ) (cs : List ℕ) → length (run key above n cs) ≡ length cs
length_run key above n cs = sym (length-map (run key above n cs) char_of) ∙ ap length (run_text key above n cs)

-- as many nodes as the ranges insert
pub nodes_counted : (key : ℕ → Key) (S : List (Node Key)) (n : ℕ) (rs : List Patch) → length (nodes_at key S n rs) ≡ inserted rs
nodes_counted key S n [] = refl
nodes_counted key S n (r ∷ rs) = omega (arith, length-append (run key (origin_at S r.start) n r.text) (nodes_at key S (n + length r.text) rs), length_run key (origin_at S r.start) n r.text, nodes_counted key S (n + length r.text) rs, sum_by-cons (λ (r : Patch). length r.text) r rs)

-- with the characters of their texts, in order
pub nodes_chars : (key : ℕ → Key) (S : List (Node Key)) (n : ℕ) (rs : List Patch) → chars_of (nodes_at key S n rs) ≡ flat_map (λ (r : Patch). r.text) rs
nodes_chars key S n [] = refl
nodes_chars key S n (r ∷ rs) = map-append char_of (run key (origin_at S r.start) n r.text) (nodes_at key S (n + length r.text) rs)
    ∙ ap (λ t. t ++ chars_of (nodes_at key S (n + length r.text) rs)) (run_text key (origin_at S r.start) n r.text)
    ∙ ap (λ t. r.text ++ t) (nodes_chars key S (n + length r.text) rs) ∙ sym (flat_map-cons (λ (r : Patch). r.text) r rs)

-- what stands at a place of two lists that were joined
at_joined : {A : Type 0} (xs ys : List A) (k : ℕ) (x : A) → slice_get (xs ++ ys) k ≡ Some x → (slice_get xs k ≡ Some x) ⊎ ((j : ℕ) × (k ≡ length xs + j) × (slice_get ys j ≡ Some x))
at_joined [] ys k x e = inr (k, omega arith, e)
at_joined (z ∷ xs) ys zero x e = inl e
at_joined (z ∷ xs) ys (suc k) x e = elim (at_joined xs ys k x e) [
  | inl a ↦ inl a
  | inr (j, s, a) ↦ inr (j, omega (arith, s), a)
]

run_keys : (key : ℕ → Key) (cs : List ℕ) (above : List Key) (n k : ℕ) (x : Node Key) → slice_get (run key above n cs) k ≡ Some x → x.key ≡ key (n + k)
run_keys key [] above n k x e = absurd (none-some x e)
run_keys key (c ∷ cs) above n zero x e = let s : n ≡ n + zero = omega arith in sym (ap key_of (same_Some (record { above = above; key = key n; char = c }) x e)) ∙ ap key s
run_keys key (c ∷ cs) above n (suc k) x e = let s : (n + 1) + k ≡ n + suc k = omega arith in run_keys key cs (above ++ key n ∷ []) (n + 1) k x e ∙ ap key s

-- the node at place k has the key of number n + k
pub nodes_keys : (key : ℕ → Key) (S : List (Node Key)) (n : ℕ) (rs : List Patch) (k : ℕ) (x : Node Key) → slice_get (nodes_at key S n rs) k ≡ Some x → x.key ≡ key (n + k)
nodes_keys key S n [] k x e = absurd (none-some x e)
nodes_keys key S n (r ∷ rs) k x e = elim (at_joined (run key (origin_at S r.start) n r.text) (nodes_at key S (n + length r.text) rs) k x e) [
  | inl a ↦ run_keys key r.text (origin_at S r.start) n k x a
  | inr (j, s, a) ↦ let t : (n + length r.text) + j ≡ n + k = omega (arith, s, length_run key (origin_at S r.start) n r.text) in nodes_keys key S (n + length r.text) rs j x a ∙ ap key t
]

-- the nodes of several ranges stand range by range
pub nodes_apart : (key : ℕ → Key) (S : List (Node Key)) (n : ℕ) (front back : List Patch) (r : Patch)
    → nodes_at key S n (front ++ r ∷ back) ≡ nodes_at key S n front ++ (run key (origin_at S r.start) (n + inserted front) r.text ++ nodes_at key S (n + inserted front + length r.text) back)
nodes_apart key S n [] back r = let e : n ≡ n + inserted [] = omega arith in ap (λ (k : ℕ). run key (origin_at S r.start) k r.text ++ nodes_at key S (k + length r.text) back) e
nodes_apart key S n (f ∷ front) back r =
    let e : (n + length f.text) + inserted front ≡ n + inserted (f ∷ front) = omega (arith, sum_by-cons (λ (r : Patch). length r.text) f front) in
    ap (λ t. run key (origin_at S f.start) n f.text ++ t) (nodes_apart key S (n + length f.text) front back r)
    ∙ ap (λ (k : ℕ). run key (origin_at S f.start) n f.text ++ (nodes_at key S (n + length f.text) front ++ (run key (origin_at S r.start) k r.text ++ nodes_at key S (k + length r.text) back))) e
    ∙ sym (append_assoc (run key (origin_at S f.start) n f.text) (nodes_at key S (n + length f.text) front) (run key (origin_at S r.start) (n + inserted (f ∷ front)) r.text ++ nodes_at key S (n + inserted (f ∷ front) + length r.text) back))

-- the first node of a run hangs below the run's origin, and each further one below the one before it
pub run_first : (key : ℕ → Key) (cs : List ℕ) (above : List Key) (n : ℕ) (x : Node Key) → slice_get (run key above n cs) 0 ≡ Some x → x.above ≡ above
run_first key [] above n x e = absurd (none-some x e)
run_first key (c ∷ cs) above n x e = sym (ap (λ (t : Node Key). t.above) (same_Some (record { above = above; key = key n; char = c }) x e))

pub run_next : (key : ℕ → Key) (cs : List ℕ) (above : List Key) (n k : ℕ) (x y : Node Key) → slice_get (run key above n cs) k ≡ Some x → slice_get (run key above n cs) (suc k) ≡ Some y → y.above ≡ path_of x
run_next key [] above n k x y e f = absurd (none-some x e)
run_next key (c ∷ cs) above n zero x y e f = run_first key cs (above ++ key n ∷ []) (n + 1) y f ∙ ap path_of (same_Some (record { above = above; key = key n; char = c }) x e)
run_next key (c ∷ cs) above n (suc k) x y e f = run_next key cs (above ++ key n ∷ []) (n + 1) k x y e f

-- the origin of a range's text is the seen node before the range
pub origin_seen : (S : List (Node Key)) (s : ℕ) (x : Node Key) → slice_get S s ≡ Some x → origin_at S (s + 1) ≡ path_of x
origin_seen S s x e = go S [] s e
  where
    go : (T : List (Node Key)) (p : List Key) (k : ℕ) → slice_get T k ≡ Some x → last_path p (take (k + 1) T) ≡ path_of x
    go [] p k e = absurd (none-some x e)
    go (y ∷ T) p zero e = ap path_of (same_Some y x e)
    go (y ∷ T) p (suc k) e = let s : suc k + 1 ≡ suc (k + 1) = omega arith in ap (λ (j : ℕ). last_path p (take j (y ∷ T))) s ∙ go T (path_of y) k e

-- as many keys as the ranges remove
pub deleted_counted : (S : List (Node Key)) (rs : List Patch) (low : ℕ) → AreRanges low (length S) rs → length (deleted_at S rs) ≡ removed rs
deleted_counted S [] low h = refl
deleted_counted S (r ∷ rs) low h =
    let short : r.end - r.start ≤ length (drop r.start S) = omega (arith, length-drop r.start S, h.2) in
    omega (arith, length-append (map key_of (take (r.end - r.start) (drop r.start S))) (deleted_at S rs), length-map (take (r.end - r.start) (drop r.start S)) key_of, length-take-le (r.end - r.start) (drop r.start S) short, deleted_counted S rs r.end h.4, sum_by-cons (λ (r : Patch). r.end - r.start) r rs)

-- what stands in a cut of a list, and where
in_cut : (k : Key) (S : List (Node Key)) (start n : ℕ) → Member k (map key_of (take n (drop start S))) → (i : ℕ) × (x : Node Key) × (start ≤ i) × (i < start + n) × (slice_get S i ≡ Some x) × (x.key ≡ k)
in_cut k [] zero zero m = absurd m
in_cut k [] zero (suc n) m = absurd m
in_cut k [] (suc start) zero m = absurd m
in_cut k [] (suc start) (suc n) m = absurd m
in_cut k (y ∷ S) (suc start) n m = let r = in_cut k S start n m in (suc r.0, r.1, omega (arith, r.2), omega (arith, r.3), r.4, r.5)
in_cut k (y ∷ S) zero zero m = absurd m
in_cut k (y ∷ S) zero (suc n) (inl e) = (zero, y, omega arith, omega arith, refl, e)
in_cut k (y ∷ S) zero (suc n) (inr m) = let r = in_cut k S zero n m in (suc r.0, r.1, omega arith, omega (arith, r.3), r.4, r.5)

cut_in : (S : List (Node Key)) (start n i : ℕ) (x : Node Key) → start ≤ i → i < start + n → slice_get S i ≡ Some x → Member x.key (map key_of (take n (drop start S)))
cut_in [] start n i x a b e = absurd (none-some x e)
cut_in (y ∷ S) (suc start) n zero x a b e = absurd (omega (arith, a))
cut_in (y ∷ S) (suc start) n (suc i) x a b e = cut_in S start n i x (omega (arith, a)) (omega (arith, b)) e
cut_in (y ∷ S) zero zero i x a b e = absurd (omega (arith, b))
cut_in (y ∷ S) zero (suc n) zero x a b e = inl (ap key_of (same_Some y x e))
cut_in (y ∷ S) zero (suc n) (suc i) x a b e = inr (cut_in S zero n i x (omega arith) (omega (arith, b)) e)

pub deleted_named : (S : List (Node Key)) (rs : List Patch) (k : Key) → Member k (deleted_at S rs) → IsDeletedAt S rs k
deleted_named S [] k m = absurd m
deleted_named S (r ∷ rs) k m = elim (member_append_cases k (map key_of (take (r.end - r.start) (drop r.start S))) (deleted_at S rs) m) [
  | inl a ↦ here (in_cut k S r.start (r.end - r.start) a)
  | inr b ↦ wider (deleted_named S rs k b)
]
  where
    here : (i : ℕ) × (x : Node Key) × (r.start ≤ i) × (i < r.start + (r.end - r.start)) × (slice_get S i ≡ Some x) × (x.key ≡ k) → IsDeletedAt S (r ∷ rs) k
    here (i, x, a, b, e, f) = (r, i, x, member_contains (r ∷ rs) r (inl refl), a, omega (arith, a, b), e, f)

    wider : IsDeletedAt S rs k → IsDeletedAt S (r ∷ rs) k
    wider (q, i, x, c, a, b, e, f) = (q, i, x, member_contains (r ∷ rs) q (inr (contains_member rs q c)), a, b, e, f)

pub named_deleted : (S : List (Node Key)) (rs : List Patch) (k : Key) → IsDeletedAt S rs k → Member k (deleted_at S rs)
named_deleted S rs k (q, i, x, c, a, b, e, f) = subst (λ (t : Key). Member t (deleted_at S rs)) f (go rs (contains_member rs q c))
  where
    go : (ps : List Patch) → Member q ps → Member x.key (deleted_at S ps)
    go [] m = absurd m
    go (p ∷ ps) (inl same) = member_append_left x.key (map key_of (take (p.end - p.start) (drop p.start S))) (deleted_at S ps)
        (cut_in S p.start (p.end - p.start) i x (subst (λ (t : Patch). t.start ≤ i) (sym same) a) (let g : i < p.end = subst (λ (t : Patch). i < t.end) (sym same) b in let h : p.start ≤ i = subst (λ (t : Patch). t.start ≤ i) (sym same) a in omega (arith, g, h)) e)
    go (p ∷ ps) (inr m) = member_append_right x.key (map key_of (take (p.end - p.start) (drop p.start S))) (deleted_at S ps) (go ps m)

pub deleted_exact : (S : List (Node Key)) (rs : List Patch) (k : Key) → Contains (deleted_at S rs) k ↔ IsDeletedAt S rs k
deleted_exact S rs k = (λ c. deleted_named S rs k (contains_member (deleted_at S rs) k c), λ d. member_contains (deleted_at S rs) k (named_deleted S rs k d))

pub run_following : (key : ℕ → Key) (cs : List ℕ) (above : List Key) (n k : ℕ) (x y : Node Key) → slice_get (run key above n cs) k ≡ Some x → slice_get (run key above n cs) (k + 1) ≡ Some y → y.above ≡ path_of x
run_following key cs above n k x y e f = let s : k + 1 ≡ suc k = omega arith in run_next key cs above n k x y e (subst (λ (j : ℕ). slice_get (run key above n cs) j ≡ Some y) s f)

pub tree_left : (level : ℕ) (id : List ℕ) (S : List (Node Key)) (c : Change) (d : List (Node Key)) → IsTree key_cmp d → AreNewKeys (key_in level id) 0 d → ((x : Node Key) → Contains S x → Contains d x) → AreUnder level S → IsTree key_cmp (with_nodes key_cmp (added_nodes level id S c) d)
tree_left level id S c d tree new sub under = tree_with_nodes_at level id S (ranges_at S c) 0 d tree new (λ x m. contains_member d x (sub x (member_contains S x m))) under
