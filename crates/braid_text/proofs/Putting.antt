-- Runs put into a document: one more run, and what that leaves of the others.
use Rattle.std.proofs.Common.{◌≡◌, ℕ, zero, suc, ◌+◌, ◌-◌, ◌<◌, ◌≤◌, List, [], ◌∷◌, true, ◌==◌, length, map, take, drop, get_or, Option, Some, None, IsSomeAnd, refl, sym, ap, subst, ◌∙◌, inl, inr, ◌⊎◌, Less, slice_get, MatchOption, arith}
use Rattle.std.specs.List.{AllByRecursion}
use Rattle.std.proofs.lemmas.Bool.Decides.{nat_tests}
use Rattle.std.proofs.lemmas.List.{take_more, drop_more}
use Rattle.std.proofs.lemmas.List.Sums.{sum_by-cons, sum_by-append, sum_by-take-drop}
use Rattle.braid_change.specs.declared.patch.Patch.{Patch}
use Rattle.braid_tree.specs.declared.at.At.{At}
use Rattle.braid_tree.specs.Keys.{Key, key_cmp, key_in}
use Rattle.braid_tree.specs.Nodes.{Node, with_nodes, run}
use Rattle.braid_tree.specs.Elements.{element_of}
use Rattle.braid_tree.specs.Trees.{Member, IsTree, HasPath, AreNewKeys}
use Rattle.braid_tree.specs.Rows.{Stamp, Row, HasPlace, KeepsPlaces, IsOrigin, Inserts, ListsWithRun, element_at, key_by, next_key}
use Rattle.braid_tree.proofs.Keys.{keys_strict, run_keys_rise}
use Rattle.braid_tree.proofs.Kept.{tree_with_run}
use Rattle.braid_rebase.specs.Additions.{origin_at, nodes_at, AreUnder}
use Rattle.braid_rebase.specs.declared.run.Run.{Run}
use Rattle.braid_rebase.proofs.Added.{origin_below, origin_member, new_with_run, old_with_nodes, with_nodes-append}
use Rattle.braid_text.specs.Puts.{Puts, ListsWithRuns, AreOver, AreThere, text_len, total_len}

-- the keys of the version begun last are its level, its identifier and a number
pub next_is : (vs : List Stamp) → next_key vs ≡ key_in (next_key vs 0).level (next_key vs 0).id
next_is vs = λ i n. by (slice_get vs (length vs - 1)) n i
  where
    by : (o : Option Stamp) (n : ℕ) → key_by o n ≡ key_in (key_by o 0).level (key_by o 0).id n
    by None n = refl
    by (Some v) n = refl

-- the step over the keys of a version
step : (level : ℕ) (id : List ℕ) (d N : List (Node Key)) (n : ℕ) (r : Patch) → IsTree key_cmp d → ((z : Node Key) → Member z N → Member z d) → AreUnder level N → AreNewKeys (key_in level id) n d
    → IsTree key_cmp (with_nodes key_cmp (run (key_in level id) (origin_at N r.start) n r.text) d) × AreNewKeys (key_in level id) (n + length r.text) (with_nodes key_cmp (run (key_in level id) (origin_at N r.start) n r.text) d)
    × AllByRecursion (λ (b : Key). key_cmp b (key_in level id n) ≡ Less) (origin_at N r.start)
step level id d N n r tree members under new =
    (tree_with_run key_cmp keys_strict (key_in level id) (run_keys_rise level id) r.text (origin_at N r.start) n d tree new origin up, new_with_run level id r.text (origin_at N r.start) n d up new, up)
  where
    up : AllByRecursion (λ (b : Key). key_cmp b (key_in level id n) ≡ Less) (origin_at N r.start)
    up = origin_below level id N r.start n under

    origin : (origin_at N r.start ≡ []) ⊎ HasPath d (origin_at N r.start)
    origin = elim (origin_member N r.start) [ inl e ↦ inl e | inr (z, m, e) ↦ inr (z, members z m, e) ]

pub runs_more : (vs : List Stamp) (rows mid new : List Row) (first : Run) (runs : List Run) → ListsWithRun vs rows mid first.after first.ordinal first.text → ListsWithRuns vs mid new runs → ListsWithRuns vs rows new (first ∷ runs)
runs_more vs rows mid new first runs placed more d N n [] puts of = absurd of
runs_more vs rows mid new first runs placed more d N n (r ∷ rs) puts of =
    more next N (n + length r.text) rs puts' of.3 ∙ ap (map element_of) (sym (with_nodes-append (run (next_key vs) above n r.text) (nodes_at (next_key vs) N (n + length r.text) rs) d))
  where
    above : List Key
    above = origin_at N r.start

    next : List (Node Key)
    next = with_nodes key_cmp (run (next_key vs) above n r.text) d

    IsStep : (ℕ → Key) → Type 0
    IsStep key = IsTree key_cmp (with_nodes key_cmp (run key above n r.text) d) × AreNewKeys key (n + length r.text) (with_nodes key_cmp (run key above n r.text) d) × AllByRecursion (λ (b : Key). key_cmp b (key n) ≡ Less) above

    facts : IsStep (next_key vs)
    facts = subst IsStep (sym (next_is vs)) (step (next_key vs 0).level (next_key vs 0).id d N n r puts.tree puts.members puts.under (subst (λ (key : ℕ → Key). AreNewKeys key n d) (next_is vs) puts.new))

    origin : (o : Option At) → IsOrigin vs N o above → IsOrigin vs d o above
    origin None e = e
    origin (Some at) (z, m, e, f) = (z, puts.members z m, e, f)

    inserts : Inserts vs rows d first.after above n
    inserts = record { tree = puts.tree; listed = puts.listed; origin = origin first.after of.2; up = facts.2; new = puts.new }

    listed : map (element_at vs) mid ≡ map element_of next
    listed = subst (λ (t : List ℕ). map (element_at vs) mid ≡ map element_of (with_nodes key_cmp (run (next_key vs) above n t) d)) of.0
        (subst (λ (m : ℕ). Inserts vs rows d first.after above m → map (element_at vs) mid ≡ map element_of (with_nodes key_cmp (run (next_key vs) above m first.text) d)) of.1 (placed d above) inserts)

    puts' : Puts vs mid next N (n + length r.text)
    puts' = record { tree = facts.0; listed = listed; members = λ z m. old_with_nodes z (run (next_key vs) above n r.text) d (puts.members z m); under = puts.under; new = facts.1 }

pub empty_text : (text : List ℕ) → (length text == 0) ≡ true → text ≡ []
empty_text text e = go text (none (length text) e)
  where
    none : (n : ℕ) → (n == 0) ≡ true → n ≡ 0
    none n e = grind (arith, nat_tests)

    go : (text : List ℕ) → length text ≡ 0 → text ≡ []
    go [] e = refl
    go (x ∷ text) e = absurd (omega (arith, e))

-- a run without text changes nothing
pub empty_run : (vs : List Stamp) (rows : List Row) (r : Run) → r.text ≡ [] → ListsWithRun vs rows rows r.after r.ordinal r.text
empty_run vs rows r e = subst (λ (t : List ℕ). ListsWithRun vs rows rows r.after r.ordinal t) (sym e) (λ es above inserts. inserts.listed)

pub runs_end : (vs : List Stamp) (rows : List Row) → ListsWithRuns vs rows rows []
runs_end vs rows d N n [] puts of = puts.listed
runs_end vs rows d N n (r ∷ rs) puts of = absurd of

-- the places of further runs stay
pub over_more : (old new : List Row) (n : ℕ) (runs : List Run) → KeepsPlaces old new → AreOver old n runs → AreOver new n runs
over_more old new n [] kept over = tt
over_more old new n (r ∷ runs) kept over = (lift r.after over.0, over.1, over_more old new (n + text_len r) runs kept over.2)
  where
    lift : (o : Option At) → MatchOption o (Unit {0}) (HasPlace old) → MatchOption o (Unit {0}) (HasPlace new)
    lift None h = tt
    lift (Some at) h = kept at h

-- each of them by its number
pub there_at : (rows : List Row) (places : List At) → AreThere rows places → (i : ℕ) → i < length places → IsSomeAnd (slice_get places i) (HasPlace rows)
there_at rows [] all i l = absurd (omega (arith, l))
there_at rows (at ∷ places) all zero l = all.0
there_at rows (at ∷ places) all (suc i) l = there_at rows places all.1 i (omega (arith, l))

pub there_more : (old new : List Row) (places : List At) → KeepsPlaces old new → AreThere old places → AreThere new places
there_more old new [] kept there = tt
there_more old new (at ∷ places) kept there = (kept at there.0, there_more old new places kept there.1)

-- how many characters the first runs insert
pub total_more : (runs : List Run) (i : ℕ) (r : Run) → i < length runs → r ≡ get_or runs i r → total_len (take (i + 1) runs) ≡ total_len (take i runs) + text_len r
total_more runs i r l is = ap total_len (take_more runs i r l) ∙ sum_by-append text_len (take i runs) (get_or runs i r ∷ []) ∙ ap (λ (n : ℕ). total_len (take i runs) + n) (one (get_or runs i r) ∙ ap text_len (sym is))
  where
    one : (q : Run) → total_len (q ∷ []) ≡ text_len q
    one q = let e = sum_by-cons text_len q [] in omega (arith, e)

pub total_left : (runs : List Run) (i : ℕ) (r : Run) → i < length runs → r ≡ get_or runs i r → total_len (take i runs) + text_len r ≤ total_len runs
total_left runs i r l is = omega (arith, total_more runs i r l is, sum_by-take-drop text_len runs (i + 1))

-- the runs that are left begin with the one at hand
pub runs_left : (runs : List Run) (i : ℕ) (r : Run) → i < length runs → r ≡ get_or runs i r → drop i runs ≡ r ∷ drop (i + 1) runs
runs_left runs i r l is = drop_more runs i r l ∙ ap (λ (q : Run). q ∷ drop (i + 1) runs) (sym is)
