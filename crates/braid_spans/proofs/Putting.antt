-- A run that is put between others: where it stands among the rows, and what stays.
use Rattle.std.proofs.Common.{◌≡◌, ℕ, zero, suc, ◌+◌, ◌-◌, ◌<◌, ◌≤◌, ◌^◌, List, [], ◌∷◌, ◌++◌, Option, Some, None, IsSomeAnd, IfSome, MatchOption, length, take, drop, slice_get, refl, sym, ap, subst, ◌∙◌, arith, append_assoc, Less, inl, inr, take-add}
use Rattle.std.specs.List.{insert, AllByRecursion}
use Rattle.std.proofs.lemmas.List.{length-append, length-map, append-nil, take_at, drop_at, take_all, take-append-drop}
use Rattle.std.proofs.lemmas.List.Elements.{All-take, All-drop, All-weaker}
use Rattle.std.proofs.lemmas.Bool.{cases_order}
use Rattle.std.proofs.lemmas.Option.{slice_get_cases, slice_get_within}
use Rattle.braid_tree.specs.declared.at.At.{At}
use Rattle.braid_tree.specs.Keys.{key_cmp}
use Rattle.braid_tree.specs.Rows.{Row, Stamp, PutsRun, key_at, key_by, place, run_rows}
use Rattle.braid_tree.specs.Inside.{IsPlaceOf, IsPassed, IsNotPassed}
use Rattle.braid_tree.proofs.Order.{below_trans}
use Rattle.braid_tree.proofs.Keys.{keys_strict, lower_ordinal}
use Rattle.braid_tree.proofs.Bridge.{StartsBehindRow, run_put_at}
use Rattle.braid_spans.specs.declared.run.Run.{Run}
use Rattle.braid_spans.specs.Spans.{Spelled, spell, spelled_span, spelled, rows_of, deletions_of}
use Rattle.braid_spans.specs.Kept.{span_of, spans_of, IsFitting, AreFitting, IsPut, IsEndAt, IsRunPassed, IsRunNotPassed}
use Rattle.braid_spans.proofs.Lists.{parts, take_item, drop_at_item, some_item, all_got, all_insert}
use Rattle.braid_spans.proofs.SeenSteps.{get_left, get_right}
use Rattle.braid_spans.proofs.Spelling.{rows_of-spell, rows_of-append, length-spell, spelled-append, spans_of-append, deletions_of-append, text_length}
use Rattle.braid_spans.proofs.Cutting.{spelled_parts}
use Rattle.braid_spans.proofs.Marking.{more_spans}

-- the row has a greater key than `first`
abbrev pub HasGreaterKey : List Stamp → At → Row → Type 0
HasGreaterKey vs first row = key_cmp (key_at vs first) (key_at vs row.at) ≡ Less

-- the keys of a version rise
key_rises : (vs : List Stamp) (version n : ℕ) → key_cmp (key_at vs (place version n)) (key_at vs (place version (n + 1))) ≡ Less
key_rises vs version n = go (slice_get vs version)
  where
    go : (o : Option Stamp) → key_cmp (key_by o n) (key_by o (n + 1)) ≡ Less
    go None = lower_ordinal (key_by None n) (key_by None (n + 1)) refl refl (omega arith)
    go (Some v) = lower_ordinal (key_by (Some v) n) (key_by (Some v) (n + 1)) refl refl (omega arith)

-- so all rows of a run have greater keys where the first has
greater_run : (vs : List Stamp) (first : At) (by : List ℕ) (version : ℕ) (origin : Option At) (n : ℕ) (cs : List ℕ) → key_cmp (key_at vs first) (key_at vs (place version n)) ≡ Less
    → AllByRecursion (HasGreaterKey vs first) (rows_of (spell by version origin n cs))
greater_run vs first by version origin n [] h = tt
greater_run vs first by version origin n (c ∷ cs) h = (h, greater_run vs first by version (Some (place version n)) (n + 1) cs (below_trans key_cmp keys_strict (key_at vs first) (key_at vs (place version n)) (key_at vs (place version (n + 1))) h (key_rises vs version n)))

all_append : {X : Type 0} (P : X → Type 0) (xs ys : List X) → AllByRecursion P xs → AllByRecursion P ys → AllByRecursion P (xs ++ ys)
all_append P [] ys a b = b
all_append P (x ∷ xs) ys a b = (a.0, all_append P xs ys a.1 b)

-- an item of the middle of three lists
between : {X : Type 0} (P : X → Type 0) (xs ms ys : List X) (k : ℕ) → AllByRecursion P ms → length xs ≤ k → k < length xs + length ms → IfSome (slice_get (xs ++ (ms ++ ys)) k) P
between P [] [] ys k all lo hi = absurd (omega (arith, hi))
between P [] (m ∷ ms) ys zero all lo hi = all.0
between P [] (m ∷ ms) ys (suc k) all lo hi = between P [] ms ys k all.1 (omega arith) (omega (arith, hi))
between P (x ∷ xs) ms ys zero all lo hi = absurd (omega (arith, lo))
between P (x ∷ xs) ms ys (suc k) all lo hi = between P xs ms ys k all (omega (arith, lo)) (omega (arith, hi))

spell_place : (by : List ℕ) (version : ℕ) (origin : Option At) (n : ℕ) (cs : List ℕ) (k : ℕ) → k < length cs → IsSomeAnd (slice_get (rows_of (spell by version origin n cs)) k) (λ (r : Row). r.at ≡ place version (n + k))
spell_place by version origin n [] k l = absurd (omega (arith, l))
spell_place by version origin n (c ∷ cs) zero l = ap (place version) more
  where
    more : n ≡ n + 0
    more = omega arith
spell_place by version origin n (c ∷ cs) (suc k) l = subst (λ (m : ℕ). IsSomeAnd (slice_get (rows_of (spell by version (Some (place version n)) (n + 1) cs)) k) (λ (r : Row). r.at ≡ place version m)) more (spell_place by version (Some (place version n)) (n + 1) cs k (omega (arith, l)))
  where
    more : n + 1 + k ≡ n + suc k
    more = omega arith

module _ (versions : ℕ) (chars : List ℕ) (chains : List (List ℕ)) (vs : List Stamp) where
  abbrev rows : List Run → List Row
  rows rs = rows_of (spelled (spans_of chars chains rs))

  rows-append : (xs ys : List Run) → rows (xs ++ ys) ≡ rows xs ++ rows ys
  rows-append xs ys = ap (λ t. rows_of (spelled t)) (spans_of-append chars chains xs ys) ∙ ap rows_of (spelled-append (spans_of chars chains xs) (spans_of chars chains ys)) ∙ rows_of-append (spelled (spans_of chars chains xs)) (spelled (spans_of chars chains ys))

  one_row_run : Run → List Row
  one_row_run r = rows_of (spelled_span (span_of chars chains r))

  rows-cons : (r : Run) (rs : List Run) → rows (r ∷ rs) ≡ rows_of (spelled_span (span_of chars chains r)) ++ rows rs
  rows-cons r rs = rows_of-append (spelled_span (span_of chars chains r)) (spelled (spans_of chars chains rs))

  run_length : (r : Run) → IsFitting versions (length chars) (length chains) r → length (rows_of (spelled_span (span_of chars chains r))) ≡ r.len
  run_length r fit = ap length (rows_of-spell (span_of chars chains r).by r.first.version r.origin r.first.ordinal (span_of chars chains r).text)
      ∙ sym (ap length (rows_of-spell (span_of chars chains r).by r.first.version r.origin r.first.ordinal (span_of chars chains r).text))
      ∙ length-map (spelled_span (span_of chars chains r)) (λ (e : Spelled). e.row)
      ∙ length-spell (span_of chars chains r).by r.first.version r.origin r.first.ordinal (span_of chars chains r).text
      ∙ text_length versions (length chains) chars r fit

  -- the rows of the runs that are passed have greater keys
  passed_runs : (first : At) (s m : ℕ) (rs : List Run) → s + m ≤ length rs → ((i : ℕ) → s ≤ i → i < s + m → IsRunPassed vs rs first i) → AllByRecursion (HasGreaterKey vs first) (rows (take m (drop s rs)))
  passed_runs first zero zero rs le h = tt
  passed_runs first zero (suc m) [] le h = absurd (omega (arith, le))
  passed_runs first zero (suc m) (r ∷ rs) le h = subst (AllByRecursion (HasGreaterKey vs first)) (sym (rows-cons r (take m rs)))
      (all_append (HasGreaterKey vs first) (rows_of (spelled_span (span_of chars chains r))) (rows (take m rs))
      (greater_run vs first (span_of chars chains r).by r.first.version r.origin r.first.ordinal (span_of chars chains r).text (h 0 (omega arith) (omega arith)))
      (passed_runs first zero m rs (omega (arith, le)) (λ i a b. h (suc i) (omega arith) (omega (arith, b)))))
  passed_runs first (suc s) m [] le h = absurd (omega (arith, le))
  passed_runs first (suc s) m (r ∷ rs) le h = passed_runs first s m rs (omega (arith, le)) (λ i a b. h (suc i) (omega (arith, a)) (omega (arith, b)))

  module _ (rs : List Run) (first : At) (start index : ℕ) (fit : AreFitting versions chars chains rs) (lo : start ≤ index) (hi : index ≤ length rs)
      (passed : (i : ℕ) → start ≤ i → i < index → IsRunPassed vs rs first i) (stop : index < length rs → IsRunNotPassed vs rs first index) where
    -- where the rows of the run begin, and where they may
    abbrev pub at_row : ℕ
    at_row = length (rows (take index rs))

    abbrev pub from_row : ℕ
    from_row = length (rows (take start rs))

    split : rows rs ≡ rows (take index rs) ++ rows (drop index rs)
    split = ap rows (sym (take-append-drop index rs)) ∙ rows-append (take index rs) (drop index rs)

    fronts : take index rs ≡ take start rs ++ take (index - start) (drop start rs)
    fronts = ap (λ n. take n rs) sum ∙ take-add start (index - start) rs
      where
        sum : index ≡ start + (index - start)
        sum = omega (arith, lo)

    front_rows : rows (take index rs) ≡ rows (take start rs) ++ rows (take (index - start) (drop start rs))
    front_rows = ap rows fronts ∙ rows-append (take start rs) (take (index - start) (drop start rs))

    pub row_within : at_row ≤ length (rows rs)
    row_within = let e = ap length split ∙ length-append (rows (take index rs)) (rows (drop index rs)) in omega (arith, e)

    pub row_from : from_row ≤ at_row
    row_from = let e = ap length front_rows ∙ length-append (rows (take start rs)) (rows (take (index - start) (drop start rs))) in omega (arith, e)

    pub rows_passed : (k : ℕ) → from_row ≤ k → k < at_row → IsPassed vs (rows rs) first k
    rows_passed k a b =
        let e = ap length front_rows ∙ length-append (rows (take start rs)) (rows (take (index - start) (drop start rs))) in
        subst (λ t. IfSome (slice_get t k) (HasGreaterKey vs first)) (sym (split ∙ ap (λ t. t ++ rows (drop index rs)) front_rows ∙ append_assoc (rows (take start rs)) (rows (take (index - start) (drop start rs))) (rows (drop index rs))))
        (between (HasGreaterKey vs first) (rows (take start rs)) (rows (take (index - start) (drop start rs))) (rows (drop index rs)) k
        (passed_runs first start (index - start) rs (omega (arith, lo, hi)) (λ i c d. passed i c (omega (arith, d, lo)))) a (omega (arith, b, e)))

    pub row_stops : at_row < length (rows rs) → IsNotPassed vs (rows rs) first at_row
    row_stops l = elim (cases_order index (length rs)) [
      | inl same ↦ absurd (past (omega (arith, same)))
      | inr (inl less) ↦ here (some_run less)
      | inr (inr more) ↦ absurd (past (omega (arith, more)))
    ]
      where
        past : length rs ≤ index → ⊥
        past le = let e : length (rows (take index rs)) ≡ length (rows rs) = ap (λ t. length (rows t)) (take_all index rs le) in omega (arith, e, l)

        some_run : index < length rs → (r : Run) × (slice_get rs index ≡ Some r)
        some_run less = elim ((slice_get_cases rs index).1) [ inl (r, m, g, h) ↦ (r, g) | inr (far, g) ↦ absurd (omega (arith, far, less)) ]

        here : (r : Run) × (slice_get rs index ≡ Some r) → IsNotPassed vs (rows rs) first at_row
        here (r, g) =
            subst (λ t. IfSome (slice_get t at_row) (λ (x : Row). HasGreaterKey vs first x → ⊥)) (sym (split ∙ ap (λ t. rows (take index rs) ++ rows t) (drop_at_item rs index r g) ∙ ap (λ t. rows (take index rs) ++ t) (rows-cons r (drop (suc index) rs))))
            (first_row (rows (take index rs)) (span_of chars chains r).text (rows (drop (suc index) rs)) (text_some r (all_got (IsFitting versions (length chars) (length chains)) rs index r fit g)) (from_if r g (stop (slice_get_within rs index r g))))
          where
            from_if : (x : Run) → slice_get rs index ≡ Some x → IsRunNotPassed vs rs first index → key_cmp (key_at vs first) (key_at vs x.first) ≡ Less → ⊥
            from_if x f h = subst (λ (o : Option Run). IfSome o (λ (y : Run). key_cmp (key_at vs first) (key_at vs y.first) ≡ Less → ⊥)) f h

            text_some : (x : Run) → IsFitting versions (length chars) (length chains) x → 0 < length (span_of chars chains x).text
            text_some x f = let t = text_length versions (length chains) chars x f in omega (arith, t, f.some)

            first_row : (xs : List Row) (cs : List ℕ) (ys : List Row) → 0 < length cs → (key_cmp (key_at vs first) (key_at vs r.first) ≡ Less → ⊥)
                → IfSome (slice_get (xs ++ (rows_of (spell (span_of chars chains r).by r.first.version r.origin r.first.ordinal cs) ++ ys)) (length xs)) (λ (x : Row). HasGreaterKey vs first x → ⊥)
            first_row [] [] ys some h = absurd (omega (arith, some))
            first_row [] (c ∷ cs) ys some h = h
            first_row (x ∷ xs) cs ys some h = first_row xs cs ys some h

    -- at the front, or behind the row of the origin
    pub starts_at_front : (after : Option At) → after ≡ None → start ≡ 0 → StartsBehindRow (rows rs) after from_row
    starts_at_front after e z = subst (λ (o : Option At). StartsBehindRow (rows rs) o from_row) (sym e) (ap (λ (n : ℕ). length (rows (take n rs))) z)

    pub starts_behind_end : (after : Option At) (at : At) → after ≡ Some at → 0 < start → IsEndAt rs at (start - 1) → StartsBehindRow (rows rs) after from_row
    starts_behind_end after at e some ends = subst (λ (o : Option At). StartsBehindRow (rows rs) o from_row) (sym e)
        (behind (some_item (λ (r : Run). (r.first.version ≡ at.version) × (r.first.ordinal + r.len ≡ at.ordinal + 1)) (slice_get rs (start - 1)) ends))
      where
        behind : (r : Run) × (slice_get rs (start - 1) ≡ Some r) × ((r.first.version ≡ at.version) × (r.first.ordinal + r.len ≡ at.ordinal + 1)) → (i : ℕ) × IsPlaceOf (rows rs) at i × (from_row ≡ i + 1)
        behind (r, g, (v, o)) = (
          length (rows (take (start - 1) rs)) + (r.len - 1),
          subst (λ t. IsSomeAnd (slice_get t (length (rows (take (start - 1) rs)) + (r.len - 1))) (λ (x : Row). x.at ≡ at)) (sym whole) found,
          omega (arith, from_is, run_length r fit_r, fit_r.some),
        )
          where
            fit_r : IsFitting versions (length chars) (length chains) r
            fit_r = all_got (IsFitting versions (length chars) (length chains)) rs (start - 1) r fit g

            whole : rows rs ≡ rows (take (start - 1) rs) ++ (rows_of (spelled_span (span_of chars chains r)) ++ rows (drop (suc (start - 1)) rs))
            whole = ap rows (parts rs (start - 1) r g) ∙ rows-append (take (start - 1) rs) (r ∷ drop (suc (start - 1)) rs) ∙ ap (λ t. rows (take (start - 1) rs) ++ t) (rows-cons r (drop (suc (start - 1)) rs))

            from_is : from_row ≡ length (rows (take (start - 1) rs)) + length (rows_of (spelled_span (span_of chars chains r)))
            from_is =
                ap (λ (t : List Run). length (rows t)) (ap (λ (n : ℕ). take n rs) (let s : start ≡ start - 1 + 1 = omega (arith, some) in s) ∙ take_item rs (start - 1) r g)
                ∙ ap length (rows-append (take (start - 1) rs) (r ∷ []) ∙ ap (λ t. rows (take (start - 1) rs) ++ t) (rows-cons r [] ∙ append-nil (rows_of (spelled_span (span_of chars chains r)))))
                ∙ length-append (rows (take (start - 1) rs)) (rows_of (spelled_span (span_of chars chains r)))

            text_is : length (span_of chars chains r).text ≡ r.len
            text_is = text_length versions (length chains) chars r fit_r

            last : place r.first.version (r.first.ordinal + (r.len - 1)) ≡ at
            last = let n : r.first.ordinal + (r.len - 1) ≡ at.ordinal = omega (arith, o, fit_r.some) in (λ i. record { version = v i; ordinal = n i })

            found : IsSomeAnd (slice_get (rows (take (start - 1) rs) ++ (rows_of (spelled_span (span_of chars chains r)) ++ rows (drop (suc (start - 1)) rs))) (length (rows (take (start - 1) rs)) + (r.len - 1))) (λ (x : Row). x.at ≡ at)
            found =
                subst (λ (q : Option Row). IsSomeAnd q (λ (x : Row). x.at ≡ at)) (sym (
                get_right (rows (take (start - 1) rs)) (rows_of (spelled_span (span_of chars chains r)) ++ rows (drop (suc (start - 1)) rs)) (length (rows (take (start - 1) rs)) + (r.len - 1)) (omega arith)
                ∙ ap (slice_get (rows_of (spelled_span (span_of chars chains r)) ++ rows (drop (suc (start - 1)) rs))) (let d : length (rows (take (start - 1) rs)) + (r.len - 1) - length (rows (take (start - 1) rs)) ≡ r.len - 1 = omega arith in d)
                ∙ get_left (rows_of (spelled_span (span_of chars chains r))) (rows (drop (suc (start - 1)) rs)) (r.len - 1) (omega (arith, run_length r fit_r, fit_r.some))))
                (subst (λ (a : At). IsSomeAnd (slice_get (rows_of (spelled_span (span_of chars chains r))) (r.len - 1)) (λ (x : Row). x.at ≡ a)) last
                (spell_place (span_of chars chains r).by r.first.version r.origin r.first.ordinal (span_of chars chains r).text (r.len - 1) (omega (arith, text_is, fit_r.some))))

  -- the run as it is put
  new_run : At → Option At → List ℕ → Run
  new_run first after text = record { first = first; start = length chars; len = length text; origin = after; newest = None }

  module _ (rs : List Run) (first : At) (after : Option At) (text : List ℕ) (index : ℕ) (fit : AreFitting versions chars chains rs) where
    abbrev pub put_list : List Run
    put_list = insert rs index (record { first = first; start = length chars; len = length text; origin = after; newest = None })

    text_is : take (length text) (drop (length chars) (chars ++ text)) ≡ text
    text_is = ap (take (length text)) (drop_at chars text (length chars) refl) ∙ take_all (length text) text (omega arith)

    same : (xs : List Run) → AreFitting versions chars chains xs → spans_of (chars ++ text) chains xs ≡ spans_of chars chains xs
    same xs f = ap (λ t. spans_of (chars ++ text) t xs) (sym (append-nil chains)) ∙ more_spans versions chars text chains [] xs f

    -- the elements with those of the run among them
    pub put_spelled : spelled (spans_of (chars ++ text) chains put_list) ≡ spelled (spans_of chars chains (take index rs)) ++ (spell [] first.version after first.ordinal text ++ spelled (spans_of chars chains (drop index rs)))
    put_spelled =
        spelled_parts (chars ++ text) chains (take index rs) (drop index rs) (record { first = first; start = length chars; len = length text; origin = after; newest = None })
        ∙ ap (λ t. spelled t ++ (spell [] first.version after first.ordinal (take (length text) (drop (length chars) (chars ++ text))) ++ spelled (spans_of (chars ++ text) chains (drop index rs)))) (same (take index rs) (All-take (IsFitting versions (length chars) (length chains)) index rs fit))
        ∙ ap (λ t. spelled (spans_of chars chains (take index rs)) ++ (spell [] first.version after first.ordinal (take (length text) (drop (length chars) (chars ++ text))) ++ spelled t)) (same (drop index rs) (All-drop (IsFitting versions (length chars) (length chains)) index rs fit))
        ∙ ap (λ t. spelled (spans_of chars chains (take index rs)) ++ (spell [] first.version after first.ordinal t ++ spelled (spans_of chars chains (drop index rs)))) text_is

    whole : spelled (spans_of chars chains rs) ≡ spelled (spans_of chars chains (take index rs)) ++ spelled (spans_of chars chains (drop index rs))
    whole = ap (λ t. spelled (spans_of chars chains t)) (sym (take-append-drop index rs)) ∙ ap spelled (spans_of-append chars chains (take index rs) (drop index rs)) ∙ spelled-append (spans_of chars chains (take index rs)) (spans_of chars chains (drop index rs))

    put_rows : rows_of (spelled (spans_of (chars ++ text) chains put_list)) ≡ rows (take index rs) ++ (run_rows first.version after first.ordinal text ++ rows (drop index rs))
    put_rows =
        ap rows_of put_spelled
        ∙ rows_of-append (spelled (spans_of chars chains (take index rs))) (spell [] first.version after first.ordinal text ++ spelled (spans_of chars chains (drop index rs)))
        ∙ ap (λ t. rows (take index rs) ++ t) (rows_of-append (spell [] first.version after first.ordinal text) (spelled (spans_of chars chains (drop index rs))) ∙ ap (λ t. t ++ rows (drop index rs)) (rows_of-spell [] first.version after first.ordinal text))

    old_rows : rows rs ≡ rows (take index rs) ++ rows (drop index rs)
    old_rows = ap rows_of whole ∙ rows_of-append (spelled (spans_of chars chains (take index rs))) (spelled (spans_of chars chains (drop index rs)))

    pub put_is : rows_of (spelled (spans_of (chars ++ text) chains put_list)) ≡ take (length (rows (take index rs))) (rows rs) ++ (run_rows first.version after first.ordinal text ++ drop (length (rows (take index rs))) (rows rs))
    put_is =
        put_rows
        ∙ ap (λ t. t ++ (run_rows first.version after first.ordinal text ++ rows (drop index rs))) (sym (ap (take (length (rows (take index rs)))) old_rows ∙ take_at (rows (take index rs)) (rows (drop index rs)) (length (rows (take index rs))) refl))
        ∙ ap (λ t. take (length (rows (take index rs))) (rows rs) ++ (run_rows first.version after first.ordinal text ++ t)) (sym (ap (drop (length (rows (take index rs)))) old_rows ∙ drop_at (rows (take index rs)) (rows (drop index rs)) (length (rows (take index rs))) refl))

    pub put_puts : PutsRun (rows rs) (rows_of (spelled (spans_of (chars ++ text) chains put_list))) first.version after first.ordinal text
    put_puts = (length (rows (take index rs)), (let e = ap length old_rows ∙ length-append (rows (take index rs)) (rows (drop index rs)) in omega (arith, e)), put_is)

    undeleted : (version : ℕ) (origin : Option At) (n : ℕ) (cs : List ℕ) → deletions_of (spell [] version origin n cs) ≡ []
    undeleted version origin n [] = refl
    undeleted version origin n (c ∷ cs) = undeleted version (Some (place version n)) (n + 1) cs

    pub put_deletions : deletions_of (spelled (spans_of (chars ++ text) chains put_list)) ≡ deletions_of (spelled (spans_of chars chains rs))
    put_deletions =
        ap deletions_of put_spelled
        ∙ deletions_of-append (spelled (spans_of chars chains (take index rs))) (spell [] first.version after first.ordinal text ++ spelled (spans_of chars chains (drop index rs)))
        ∙ ap (λ t. deletions_of (spelled (spans_of chars chains (take index rs))) ++ t) (deletions_of-append (spell [] first.version after first.ordinal text) (spelled (spans_of chars chains (drop index rs))) ∙ ap (λ t. t ++ deletions_of (spelled (spans_of chars chains (drop index rs)))) (undeleted first.version after first.ordinal text))
        ∙ sym (ap deletions_of whole ∙ deletions_of-append (spelled (spans_of chars chains (take index rs))) (spelled (spans_of chars chains (drop index rs))))

    pub put_fits : 0 < length text → first.version < versions → first.ordinal + length text < 2 ^ 32 → AreFitting versions (chars ++ text) chains put_list
    put_fits some known ordinals = all_insert (IsFitting versions (length (chars ++ text)) (length chains)) rs index (record { first = first; start = length chars; len = length text; origin = after; newest = None })
        (let l = length-append chars text in record { some = some; known = known; within = omega (arith, l); linked = omega arith; ordinals = ordinals })
        (All-weaker (IsFitting versions (length chars) (length chains)) (IsFitting versions (length (chars ++ text)) (length chains))
        (λ r f. (let l = length-append chars text in record { some = f.some; known = f.known; within = omega (arith, l, f.within); linked = f.linked; ordinals = f.ordinals })) rs fit)

  -- a run that is put behind the runs that are passed
  pub is_put : (rs : List Run) (first : At) (after : Option At) (text : List ℕ) (start index : ℕ) → AreFitting versions chars chains rs → start ≤ index → index ≤ length rs
      → ((i : ℕ) → start ≤ i → i < index → IsRunPassed vs rs first i) → (index < length rs → IsRunNotPassed vs rs first index)
      → MatchOption after (start ≡ 0) (λ (at : At). (0 < start) × IsEndAt rs at (start - 1)) → first.version ≡ length vs - 1
      → IsPut vs (spelled (spans_of chars chains rs)) (spelled (spans_of (chars ++ text) chains (insert rs index (record { first = first; start = length chars; len = length text; origin = after; newest = None })))) first after text
  is_put rs first after text start index fit lo hi passed stop starts last = record {
    put = put_puts rs first after text index fit;
    placed = λ es above ins. run_put_at vs (rows rs) (rows_of (spelled (spans_of (chars ++ text) chains (insert rs index (record { first = first; start = length chars; len = length text; origin = after; newest = None }))))) es after above first.ordinal text
        (length (rows (take start rs))) (length (rows (take index rs))) first.version last ins (behind after starts)
        (row_from rs first start index fit lo hi passed stop) (row_within rs first start index fit lo hi passed stop)
        (rows_passed rs first start index fit lo hi passed stop) (row_stops rs first start index fit lo hi passed stop) (put_is rs first after text index fit);
    deletions = put_deletions rs first after text index fit;
  }
    where
      behind : (o : Option At) → MatchOption o (start ≡ 0) (λ (at : At). (0 < start) × IsEndAt rs at (start - 1)) → StartsBehindRow (rows rs) o (length (rows (take start rs)))
      behind None z = starts_at_front rs first start index fit lo hi passed stop None refl z
      behind (Some at) (some, ends) = starts_behind_end rs first start index fit lo hi passed stop (Some at) at refl some ends
