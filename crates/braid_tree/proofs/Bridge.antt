-- Rows that are put past those with greater keys list the tree with the run.
use Rattle.std.proofs.Common.{◌≡◌, ℕ, ◌+◌, ◌-◌, ◌<◌, ◌≤◌, List, [], ◌∷◌, ◌++◌, length, take, drop, map, slice_get, Option, Some, None, refl, sym, ap, subst, ◌∙◌, inl, inr, arith, append_assoc, take-add, Less, suc, zero, MatchOption}
use Rattle.std.proofs.lemmas.List.{take-append-drop, map-append, take-map, drop-map, drop-drop, length-map}
use Rattle.std.specs.Option.{option_map}
use Rattle.std.specs.List.{AllByRecursion}
use Rattle.braid_tree.specs.Keys.{Key, key_cmp}
use Rattle.braid_tree.specs.Nodes.{Node, path_of, with_nodes, run}
use Rattle.braid_tree.specs.Trees.{Member, IsWithout, StartsSmaller, IsTree, EndsAt, AreDistinct, AreRisingKeys}
use Rattle.braid_tree.specs.Elements.{Element, element_of, last_key}
use Rattle.braid_tree.specs.Rows.{Stamp, Row, element_at, key_at, key_by, run_rows, place, next_key, Inserts}
use Rattle.braid_tree.specs.Inside.{IsPlaceOf, IsPassed, IsNotPassed}
use Rattle.braid_tree.specs.declared.at.At.{At}
use Rattle.braid_tree.proofs.Member.{all_member}
use Rattle.braid_tree.proofs.Order.{tri}
use Rattle.braid_tree.proofs.Keys.{keys_strict, lower_ordinal}
use Rattle.braid_tree.proofs.Kept.{run_lands}
use Rattle.braid_tree.proofs.LawProofs.{last_key-end}

-- the rows of a run list its nodes
run_listed : (vs : List Stamp) (cs : List ℕ) (origin : Option At) (above : List Key) (n : ℕ) → last_key above ≡ option_map (key_at vs) origin
    → map (element_at vs) (run_rows (length vs - 1) origin n cs) ≡ map element_of (run (next_key vs) above n cs)
run_listed vs [] origin above n h = refl
run_listed vs (c ∷ cs) origin above n h =
    ap (λ (o : Option Key). record { key = next_key vs n; char = c; origin = o } ∷ map (element_at vs) (run_rows (length vs - 1) (Some (place (length vs - 1) n)) (n + 1) cs)) (sym h)
    ∙ ap (λ t. record { key = next_key vs n; char = c; origin = last_key above } ∷ t) (run_listed vs cs (Some (place (length vs - 1) n)) (above ++ next_key vs n ∷ []) (n + 1) (last_key-end above (next_key vs n)))

-- the first row has the key of the first node
pub head_key : (vs : List Stamp) (r : Row) (rows : List Row) (e : Node Key) (es : List (Node Key)) → map (element_at vs) (r ∷ rows) ≡ map element_of (e ∷ es) → key_at vs r.at ≡ e.key
head_key vs r rows e es same = let g : element_at vs r ≡ element_of e = cc in ap (λ (x : Element). x.key) g

-- what holds of rows by place holds of the nodes in order
passed_nodes : (vs : List Stamp) (first : At) (s m : ℕ) (rows : List Row) (es : List (Node Key)) → map (element_at vs) rows ≡ map element_of es → s + m ≤ length rows → ((k : ℕ) → s ≤ k → k < s + m → IsPassed vs rows first k)
    → AllByRecursion (λ (y : Node Key). key_cmp (key_at vs first) y.key ≡ Less) (take m (drop s es))
passed_nodes vs first zero zero rows es same le h = tt
passed_nodes vs first zero (suc m) [] es same le h = absurd (omega arith)
passed_nodes vs first zero (suc m) (r ∷ rows) [] same le h = cc
passed_nodes vs first zero (suc m) (r ∷ rows) (e ∷ es) same le h =
    (subst (λ (k : Key). key_cmp (key_at vs first) k ≡ Less) (head_key vs r rows e es same) (h 0 (omega arith) (omega arith)), passed_nodes vs first zero m rows es (cc) (omega arith) (λ k a b. h (suc k) (omega arith) (omega arith)))
passed_nodes vs first (suc s) m [] es same le h = absurd (omega arith)
passed_nodes vs first (suc s) m (r ∷ rows) [] same le h = cc
passed_nodes vs first (suc s) m (r ∷ rows) (e ∷ es) same le h = passed_nodes vs first s m rows es (cc) (omega arith) (λ k a b. h (suc k) (omega arith) (omega arith))

-- and of the next row
stop_node : (vs : List Stamp) (first : At) (p : ℕ) (rows : List Row) (es : List (Node Key)) → map (element_at vs) rows ≡ map element_of es → (p < length rows → IsNotPassed vs rows first p)
    → AllByRecursion (IsWithout (key_at vs first)) es → StartsSmaller key_cmp (key_at vs first) (drop p es)
stop_node vs first zero rows [] same h new = tt
stop_node vs first zero [] (e ∷ es) same h new = cc
stop_node vs first zero (r ∷ rows) (e ∷ es) same h new = elim (tri key_cmp keys_strict (key_at vs first) e.key) [
  | inl l ↦ absurd (h (omega arith) (subst (λ (k : Key). key_cmp (key_at vs first) k ≡ Less) (sym (head_key vs r rows e es same)) l))
  | inr (inl f) ↦ absurd (new.0.1 (sym f))
  | inr (inr g) ↦ g
]
stop_node vs first (suc p) rows [] same h new = tt
stop_node vs first (suc p) [] (e ∷ es) same h new = cc
stop_node vs first (suc p) (r ∷ rows) (e ∷ es) same h new = stop_node vs first p rows es (cc) (λ (l : p < length rows). h (omega arith)) new.1

-- a place is that of a node
pub row_node : (vs : List Stamp) (at : At) (i : ℕ) (rows : List Row) (es : List (Node Key)) → map (element_at vs) rows ≡ map element_of es → IsPlaceOf rows at i → (y : Node Key) × Member y es × (y.key ≡ key_at vs at)
row_node vs at zero [] es same here = absurd (no_row here)
  where
    no_row : IsPlaceOf [] at zero → ⊥
    no_row h = h
row_node vs at (suc i) [] es same here = absurd (no_row here)
  where
    no_row : IsPlaceOf [] at (suc i) → ⊥
    no_row h = h
row_node vs at i (r ∷ rows) [] same here = cc
row_node vs at zero (r ∷ rows) (x ∷ es) same here = (x, inl refl, sym (head_key vs r rows x es same) ∙ ap (key_at vs) here)
row_node vs at (suc i) (r ∷ rows) (x ∷ es) same here = wider (row_node vs at i rows es (cc) here)
  where
    wider : (y : Node Key) × Member y es × (y.key ≡ key_at vs at) → (y : Node Key) × Member y (x ∷ es) × (y.key ≡ key_at vs at)
    wider (y, m, e) = (y, inr m, e)

-- the front up to the origin's row ends at the origin
ends_at_row : (vs : List Stamp) (at : At) (i : ℕ) (before : List (Node Key)) (rows : List Row) (es : List (Node Key)) → map (element_at vs) rows ≡ map element_of es → IsPlaceOf rows at i → AreDistinct es
    → (z : Node Key) → Member z es → z.key ≡ key_at vs at → EndsAt (before ++ take (i + 1) es) (path_of z)
ends_at_row vs at i before rows [] same here d z m e = absurd m
ends_at_row vs at i before [] (x ∷ es) same here d z m e = absurd (empty cc)
  where
    empty : ([] ≡ element_of x ∷ map element_of es) → ⊥
    empty h = cc
ends_at_row vs at zero before (r ∷ rows) (x ∷ es) same here d z m e = inr (before, x, refl, is m)
  where
    x_key : x.key ≡ z.key
    x_key = sym (head_key vs r rows x es same) ∙ ap (key_at vs) here ∙ sym e

    is : Member z (x ∷ es) → path_of x ≡ path_of z
    is (inl f) = ap path_of f
    is (inr n) = absurd (all_member (λ (y : Node Key). (y.key ≡ x.key) → ⊥) z es d.0 n (sym x_key))
ends_at_row vs at (suc i) before (r ∷ rows) (x ∷ es) same here d z m e = subst (λ t. EndsAt t (path_of z)) shape (ends_at_row vs at i (before ++ x ∷ []) rows es (cc) here d.1 z (in_tail m) e)
  where
    in_tail : Member z (x ∷ es) → Member z es
    in_tail (inl f) = absurd (clash (row_node vs at i rows es (cc) here))
      where
        clash : (y : Node Key) × Member y es × (y.key ≡ key_at vs at) → ⊥
        clash (y, n, g) = all_member (λ (y : Node Key). (y.key ≡ x.key) → ⊥) y es d.0 n (g ∙ sym e ∙ ap (λ (t : Node Key). t.key) (sym f))
    in_tail (inr n) = n

    shape : (before ++ x ∷ []) ++ take (i + 1) es ≡ before ++ take (suc i + 1) (x ∷ es)
    shape = append_assoc before (x ∷ []) (take (i + 1) es) ∙ ap (λ (k : ℕ). before ++ take k (x ∷ es)) sum
      where
        sum : suc (i + 1) ≡ suc i + 1
        sum = omega arith

-- where the rows of a run may begin: at the start, or behind the origin's row
abbrev pub StartsBehindRow : List Row → Option At → ℕ → Type 0
StartsBehindRow rows after start = MatchOption after (start ≡ 0) (λ (at : At). (i : ℕ) × IsPlaceOf rows at i × (start ≡ i + 1))

-- The rows of a run, put where the rows between have greater keys and the next has not, list the tree with the run.
pub run_put : (vs : List Stamp) (rows : List Row) (es : List (Node Key)) (after : Option At) (above : List Key) (n : ℕ) (cs : List ℕ) (start p : ℕ) → Inserts vs rows es after above n → StartsBehindRow rows after start
    → start ≤ p → p ≤ length rows → ((k : ℕ) → start ≤ k → k < p → IsPassed vs rows (place (length vs - 1) n) k) → (p < length rows → IsNotPassed vs rows (place (length vs - 1) n) p)
    → AreRisingKeys key_cmp (next_key vs)
    → map (element_at vs) (take p rows ++ (run_rows (length vs - 1) after n cs ++ drop p rows)) ≡ map element_of (with_nodes key_cmp (run (next_key vs) above n cs) es)
run_put vs rows es after above n cs start p ins behind lo hi passed stop rise =
    map-append (element_at vs) (take p rows) (new_rows ++ drop p rows)
    ∙ ap (λ t. map (element_at vs) (take p rows) ++ t) (map-append (element_at vs) new_rows (drop p rows) ∙ ap (λ t. t ++ map (element_at vs) (drop p rows)) (run_listed vs cs after above n (origin after behind ins.origin)))
    ∙ ap (λ t. t ++ (map element_of new ++ map (element_at vs) (drop p rows))) (sym (take-map (element_at vs) p rows) ∙ ap (take p) ins.listed ∙ take-map element_of p es)
    ∙ ap (λ t. map element_of (take p es) ++ (map element_of new ++ t)) (sym (drop-map (element_at vs) p rows) ∙ ap (drop p) ins.listed ∙ drop-map element_of p es)
    ∙ sym (ap (map element_of) landed ∙ map-append element_of (take p es) (new ++ drop p es) ∙ ap (λ t. map element_of (take p es) ++ t) (map-append element_of new (drop p es)))
  where
    new_rows : List Row
    new_rows = run_rows (length vs - 1) after n cs

    new : List (Node Key)
    new = run (next_key vs) above n cs

    size : length rows ≡ length es
    size = sym (length-map rows (element_at vs)) ∙ ap length ins.listed ∙ length-map es element_of

    over : List (Node Key)
    over = take (p - start) (drop start es)

    sum : start + (p - start) ≡ p
    sum = omega arith

    tail_is : drop (p - start) (drop start es) ≡ drop p es
    tail_is = drop-drop (p - start) start es ∙ ap (λ (k : ℕ). drop k es) sum

    split : es ≡ take start es ++ (over ++ drop p es)
    split = sym (ap (λ t. take start es ++ (over ++ t)) (sym tail_is) ∙ ap (λ t. take start es ++ t) (take-append-drop (p - start) (drop start es)) ∙ take-append-drop start es)

    fronts : take start es ++ over ≡ take p es
    fronts = sym (take-add start (p - start) es) ∙ ap (λ (k : ℕ). take k es) sum

    origin : (o : Option At) → StartsBehindRow rows o start → MatchOption o (above ≡ []) (λ (at : At). (z : Node Key) × Member z es × (z.key ≡ key_at vs at) × (path_of z ≡ above)) → last_key above ≡ option_map (key_at vs) o
    origin None b e = ap last_key e
    origin (Some at) b (z, m, e, f) = ap last_key (sym f) ∙ last_key-end z.above z.key ∙ ap Some e

    ends : (o : Option At) → StartsBehindRow rows o start → MatchOption o (above ≡ []) (λ (at : At). (z : Node Key) × Member z es × (z.key ≡ key_at vs at) × (path_of z ≡ above)) → EndsAt (take start es) above
    ends None b e = inl (ap (λ (k : ℕ). take k es) b, e)
    ends (Some at) (i, here, s) (z, m, e, f) = subst (λ (k : ℕ). EndsAt (take k es) above) (sym s) (subst (λ t. EndsAt (take (i + 1) es) t) f (ends_at_row vs at i [] rows es ins.listed here ins.tree.distinct z m e))

    landed : with_nodes key_cmp new es ≡ take p es ++ (new ++ drop p es)
    landed = ap (with_nodes key_cmp new) split
        ∙ run_lands key_cmp keys_strict (next_key vs) rise cs above n (take start es) over (drop p es) (subst (IsTree key_cmp) split ins.tree)
        (λ m le. subst (λ t. AllByRecursion (IsWithout (next_key vs m)) t) split (ins.new m le)) (ends after behind ins.origin) ins.up
        (passed_nodes vs (place (length vs - 1) n) start (p - start) rows es ins.listed (omega arith) (λ k a b. passed k a (omega arith)))
        (stop_node vs (place (length vs - 1) n) p rows es ins.listed stop (ins.new n (omega arith)))
        ∙ sym (append_assoc (take start es) over (new ++ drop p es)) ∙ ap (λ t. t ++ (new ++ drop p es)) fronts

-- the keys of a version rise with their ordinals
pub next_keys_rise : (vs : List Stamp) → AreRisingKeys key_cmp (next_key vs)
next_keys_rise vs m n h = go (slice_get vs (length vs - 1))
  where
    go : (o : Option Stamp) → key_cmp (key_by o m) (key_by o n) ≡ Less
    go None = lower_ordinal (key_by None m) (key_by None n) refl refl h
    go (Some v) = lower_ordinal (key_by (Some v) m) (key_by (Some v) n) refl refl h

pub starts_first : (rows : List Row) (after : Option At) (start : ℕ) → after ≡ None → start ≡ 0 → StartsBehindRow rows after start
starts_first rows after start e s = subst (λ (o : Option At). StartsBehindRow rows o start) (sym e) s

pub starts_behind : (rows : List Row) (after : Option At) (start : ℕ) (at : At) (i : ℕ) → after ≡ Some at → IsPlaceOf rows at i → start ≡ i + 1 → StartsBehindRow rows after start
starts_behind rows after start at i e h s = subst (λ (o : Option At). StartsBehindRow rows o start) (sym e) (i, h, s)

-- the same, of what is kept of versions and rows
pub run_put_at : (vs : List Stamp) (rows new : List Row) (es : List (Node Key)) (after : Option At) (above : List Key) (n : ℕ) (cs : List ℕ) (start p version : ℕ) → version ≡ length vs - 1
    → Inserts vs rows es after above n → StartsBehindRow rows after start → start ≤ p → p ≤ length rows → ((k : ℕ) → start ≤ k → k < p → IsPassed vs rows (place version n) k) → (p < length rows → IsNotPassed vs rows (place version n) p)
    → new ≡ take p rows ++ (run_rows version after n cs ++ drop p rows)
    → map (element_at vs) new ≡ map element_of (with_nodes key_cmp (run (next_key vs) above n cs) es)
run_put_at vs rows new es after above n cs start p version en ins behind lo hi passed stop put =
    ap (map (element_at vs)) (put ∙ ap (λ (v : ℕ). take p rows ++ (run_rows v after n cs ++ drop p rows)) en)
    ∙ run_put vs rows es after above n cs start p ins behind lo hi
    (λ k a b. subst (λ (v : ℕ). IsPassed vs rows (place v n) k) en (passed k a b))
    (λ l. subst (λ (v : ℕ). IsNotPassed vs rows (place v n) p) en (stop l))
    (next_keys_rise vs)
