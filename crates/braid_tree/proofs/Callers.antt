-- What a caller of a document needs between two of its calls.
use Rattle.std.proofs.Common.{sym, ◌≡◌, ℕ, zero, suc, ◌+◌, ◌-◌, ◌<◌, List, [], ◌∷◌, ◌++◌, Option, Some, None, MatchOption, Bool, true, false, cond, Contains, length, map, filter, slice_get, refl, ap, ◌∙◌, inl, inr, ◌⊎◌, arith, Less}
use Rattle.std.specs.Option.{option_map}
use Rattle.std.specs.List.{AllByRecursion}
use Rattle.std.proofs.lemmas.List.{length-append}
use Rattle.std.proofs.lemmas.List.Elements.{All-head, All-tail}
use Rattle.braid_tree.specs.declared.at.At.{At}
use Rattle.braid_tree.specs.Keys.{Key, key_cmp, key_in}
use Rattle.braid_tree.specs.Nodes.{Node, with_node, with_nodes, run}
use Rattle.braid_tree.specs.Trees.{Member, HasPath, IsTree, AreRisingKeys, AreNewKeys}
use Rattle.braid_tree.specs.Elements.{Element}
use Rattle.braid_tree.specs.Rows.{Stamp, Row, RowDeletion, HasPlace, AreNewOrdinals, AreKnown, IsKnownRow, IsOrigin, Inserts, key_by, key_at, element_at, next_key, place}
use Rattle.braid_tree.specs.Seen.{is_seen_by, seen_rows, place_in}
use Rattle.braid_tree.proofs.Keys.{keys_strict}
use Rattle.braid_tree.proofs.Kept.{tree_with_run, new_with, rising_next}
use Rattle.braid_tree.proofs.Bridge.{next_keys_rise}
use Rattle.std.proofs.lemmas.Option.{slice_get_cases}
use Rattle.braid_tree.proofs.Links.{get_append, get_end}
use Rattle.braid_tree.proofs.KeptRows.{known_place}
use Rattle.braid_tree.proofs.SeenRows.{seen_words}
use Rattle.braid_ids.specs.MarkSets.{IsMarked}

-- no row is the new version's
pub next_begin : (vs : List Stamp) (v : Stamp) (rows : List Row) → AreKnown vs rows → AreNewOrdinals rows (length (vs ++ v ∷ []) - 1) 0
next_begin vs v rows known m le h =
    let l : length (vs ++ v ∷ []) - 1 < length vs = known_place vs rows (place (length (vs ++ v ∷ []) - 1) m) known h in absurd (omega (arith, l, length-append vs (v ∷ [])))

key_begin : (vs : List Stamp) (v : Stamp) (at : At) → at.version < length vs → key_at (vs ++ v ∷ []) at ≡ key_at vs at
key_begin vs v at l = ap (λ (o : Option Stamp). key_by o at.ordinal) (get_append vs (v ∷ []) at.version l)

element_begin : (vs : List Stamp) (v : Stamp) (r : Row) → IsKnownRow vs r → element_at (vs ++ v ∷ []) r ≡ element_at vs r
element_begin vs v r known =
    let k = key_begin vs v r.at known.place_known in
    let o = origin r.origin known.origin_known in (λ i. record { key = k i; char = r.char; origin = o i })
  where
    origin : (o : Option At) → MatchOption o (Unit {0}) (λ (at : At). at.version < length vs) → option_map (key_at (vs ++ v ∷ [])) o ≡ option_map (key_at vs) o
    origin None h = refl
    origin (Some at) h = ap Some (key_begin vs v at h)

-- the rows name the elements that they named
pub listed_begin : (vs : List Stamp) (v : Stamp) (rows : List Row) → AreKnown vs rows → map (element_at (vs ++ v ∷ [])) rows ≡ map (element_at vs) rows
listed_begin vs v [] known = refl
listed_begin vs v (r ∷ rows) known =
    ap (λ (x : Element). x ∷ map (element_at (vs ++ v ∷ [])) rows) (element_begin vs v r (All-head (IsKnownRow vs) r rows known))
    ∙ ap (λ t. element_at vs r ∷ t) (listed_begin vs v rows (All-tail (IsKnownRow vs) r rows known))

-- the keys to come are those of the version begun last
pub next_key_begin : (vs : List Stamp) (v : Stamp) → next_key (vs ++ v ∷ []) ≡ key_in v.level v.id
next_key_begin vs v = λ i n. by n i
  where
    by : (n : ℕ) → next_key (vs ++ v ∷ []) n ≡ key_in v.level v.id n
    by n =
        let s : length (vs ++ v ∷ []) - 1 ≡ length vs = omega (arith, length-append vs (v ∷ [])) in
        ap (λ (m : ℕ). key_by (slice_get (vs ++ v ∷ []) m) n) s ∙ ap (λ (o : Option Stamp). key_by o n) (get_end vs v)

-- the keys that follow a run's are new to the tree with the run
pub new_with_run : (key : ℕ → Key) → AreRisingKeys key_cmp key → (cs : List ℕ) (above : List Key) (n : ℕ) (d : List (Node Key)) → AllByRecursion (λ (b : Key). key_cmp b (key n) ≡ Less) above → AreNewKeys key n d
    → AreNewKeys key (n + length cs) (with_nodes key_cmp (run key above n cs) d)
new_with_run key rise [] above n d up new m le = new m (omega (arith, le))
new_with_run key rise (c ∷ cs) above n d up new m le =
    new_with_run key rise cs (above ++ key n ∷ []) (n + 1) (with_node key_cmp x d) (rising_next key_cmp keys_strict x (key (n + 1)) c up (rise n (n + 1) (omega arith))) (new_with key_cmp keys_strict key rise n x d up refl new) m (omega (arith, le))
  where
    x : Node Key
    x = record { above = above; key = key n; char = c }

-- a run leaves a tree, with new keys behind the run's
pub run_leaves : (vs : List Stamp) (rows : List Row) (es : List (Node Key)) (after : Option At) (above : List Key) (n : ℕ) (cs : List ℕ) → Inserts vs rows es after above n
    → IsTree key_cmp (with_nodes key_cmp (run (next_key vs) above n cs) es) × AreNewKeys (next_key vs) (n + length cs) (with_nodes key_cmp (run (next_key vs) above n cs) es)
run_leaves vs rows es after above n cs ins = (
  tree_with_run key_cmp keys_strict (next_key vs) (next_keys_rise vs) cs above n es ins.tree ins.new (origin after ins.origin) ins.up,
  new_with_run (next_key vs) (next_keys_rise vs) cs above n es ins.up ins.new,
)
  where
    origin : (o : Option At) → IsOrigin vs es o above → (above ≡ []) ⊎ HasPath es above
    origin None e = inl e
    origin (Some at) (z, m, e, p) = inr (z, m, p)

place_kept : (p : Row → Bool) (rows : List Row) (at : At) → HasPlace (filter p rows) at → HasPlace rows at
place_kept p [] at h = h
place_kept p (r ∷ rows) at h = go (λ m. place_kept p rows at m) (p r) h
  where
    go : (HasPlace (filter p rows) at → HasPlace rows at) → (b : Bool) → HasPlace (cond b (r ∷ filter p rows) (filter p rows)) at → HasPlace (r ∷ rows) at
    go ih true (inl e) = inl e
    go ih true (inr m) = inr (ih m)
    go ih false m = inr (ih m)

place_got : (rows : List Row) (n : ℕ) (at : At) → option_map place_in (slice_get rows n) ≡ Some at → HasPlace rows at
place_got [] zero at h = cc
place_got [] (suc n) at h = cc
place_got (r ∷ rows) zero at h = inl cc
place_got (r ∷ rows) (suc n) at h = inr (place_got rows n at h)

-- the place of a visible element is there
pub visible_there : (marks : List Bool) (deletions : List RowDeletion) (rows : List Row) (n : ℕ) (at : At) → option_map place_in (slice_get (seen_rows marks deletions rows) n) ≡ Some at → HasPlace rows at
visible_there marks deletions rows n at h = place_kept (is_seen_by marks deletions) rows at (place_got (seen_rows marks deletions rows) n at h)

-- the same, of an answer that may be none
pub answer_there : (marks : List Bool) (deletions : List RowDeletion) (rows : List Row) (n : ℕ) (o : Option At) → o ≡ option_map place_in (slice_get (seen_rows marks deletions rows) n) → MatchOption o (Unit {0}) (HasPlace rows)
answer_there marks deletions rows n None h = tt
answer_there marks deletions rows n (Some at) h = visible_there marks deletions rows n at (sym h)

row_got : (p : Row → Bool) (rows : List Row) (n : ℕ) (at : At) → option_map place_in (slice_get (filter p rows) n) ≡ Some at → (r : Row) × (p r ≡ true) × (r.at ≡ at)
row_got p [] zero at h = cc
row_got p [] (suc n) at h = cc
row_got p (r ∷ rows) n at h = go (λ m g. row_got p rows m at g) (p r) refl n h
  where
    go : ((m : ℕ) → option_map place_in (slice_get (filter p rows) m) ≡ Some at → (r : Row) × (p r ≡ true) × (r.at ≡ at)) → (b : Bool) → p r ≡ b → (m : ℕ) → option_map place_in (slice_get (cond b (r ∷ filter p rows) (filter p rows)) m) ≡ Some at
        → (r : Row) × (p r ≡ true) × (r.at ≡ at)
    go ih true e zero g = (r, e, cc)
    go ih true e (suc m) g = ih m g
    go ih false e m g = ih m g

-- a marked version has not deleted a visible element
pub visible_undeleted : (marks : List Bool) (deletions : List RowDeletion) (rows : List Row) (n : ℕ) (o : Option At) (at : At) (by : ℕ) → o ≡ option_map place_in (slice_get (seen_rows marks deletions rows) n) → o ≡ Some at → IsMarked marks by
    → Contains deletions (record { at = at; by = by }) → ⊥
visible_undeleted marks deletions rows n o at by value is marked c = go (row_got (is_seen_by marks deletions) rows n at (sym value ∙ is))
  where
    go : (r : Row) × (is_seen_by marks deletions r ≡ true) × (r.at ≡ at) → ⊥
    go (r, seen, e) = ((seen_words marks deletions r).0 seen).1 (record { at = at; by = by }, c, sym e, marked)

-- where no two versions have one identifier, a key names one place
pub one_place : (vs : List Stamp) → ((j k : ℕ) (x y : Stamp) → slice_get vs j ≡ Some x → slice_get vs k ≡ Some y → x.id ≡ y.id → j ≡ k) → (a b : At) → a.version < length vs → b.version < length vs → key_at vs a ≡ key_at vs b → a ≡ b
one_place vs own a b la lb e = elim ((slice_get_cases vs a.version).1) [
  | inl (x, l, h, g) ↦ elim ((slice_get_cases vs b.version).1) [
    | inl (y, m, i, k) ↦ same x y h i (sym (ap (λ (o : Option Stamp). key_by o a.ordinal) h) ∙ e ∙ ap (λ (o : Option Stamp). key_by o b.ordinal) i)
    | inr (past, i) ↦ absurd (omega (arith, past, lb))
  ]
  | inr (past, h) ↦ absurd (omega (arith, past, la))
]
  where
    same : (x y : Stamp) → slice_get vs a.version ≡ Some x → slice_get vs b.version ≡ Some y → key_by (Some x) a.ordinal ≡ key_by (Some y) b.ordinal → a ≡ b
    same x y h i k =
        let ids : x.id ≡ y.id = ap (λ (t : Key). t.id) k in
        let v : a.version ≡ b.version = own a.version b.version x y h i ids in
        let o : a.ordinal ≡ b.ordinal = ap (λ (t : Key). t.ordinal) k in (λ j. record { version = v j; ordinal = o j })

-- rows that a test keeps list the nodes that a like test keeps: of members alone
pub filter_members : {A B C : Type 0} (f : A → C) (g : B → C) (p : A → Bool) (q : B → Bool) (xs : List A) (ys : List B) → ((a : A) (b : B) → Member a xs → Member b ys → f a ≡ g b → p a ≡ q b) → map f xs ≡ map g ys → map f (filter p xs) ≡ map g (filter q ys)
filter_members f g p q [] [] agree same = refl
filter_members f g p q [] (y ∷ ys) agree same = cc
filter_members f g p q (x ∷ xs) [] agree same = cc
filter_members {C = C} f g p q (x ∷ xs) (y ∷ ys) agree same = go (p x) (q y) (agree x y (inl refl) (inl refl) head) (filter_members f g p q xs ys (λ a b m n e. agree a b (inr m) (inr n) e) (cc))
  where
    head : f x ≡ g y
    head = cc

    go : (b c : Bool) → b ≡ c → map f (filter p xs) ≡ map g (filter q ys) → map f (cond b (x ∷ filter p xs) (filter p xs)) ≡ map g (cond c (y ∷ filter q ys) (filter q ys))
    go true true e ih = cc
    go false false e ih = ih
    go true false e ih = cc
    go false true e ih = cc
