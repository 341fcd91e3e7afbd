-- What marked versions see of elements is what they see of runs.
use Rattle.std.proofs.Common.{◌≡◌, ℕ, ◌+◌, List, [], ◌∷◌, ◌++◌, Option, Some, Bool, true, false, not, cond, ◌&&◌, ◌||◌, length, map, filter, refl, sym, ap, subst, ◌∙◌, arith, append_assoc, inl, inr}
use Rattle.std.specs.List.{list_any, flat_map}
use Rattle.std.proofs.lemmas.List.{map-append, length-append, length-map}
use Rattle.std.proofs.lemmas.List.Elements.{filter-append, All-filter, All-head, All-tail}
use Rattle.braid_ids.specs.MarkSets.{has_mark}
use Rattle.braid_tree.specs.declared.at.At.{At}
use Rattle.braid_tree.specs.Rows.{Row, RowDeletion, HasPlace, place}
use Rattle.braid_tree.specs.Inside.{HaveOwnPlaces}
use Rattle.braid_tree.specs.Seen.{is_marked_deletion, is_deleted_by, is_seen_by, seen_rows, place_in, char_in}
use Rattle.braid_tree.proofs.Links.{same_place_itself, other_place_false}
use Rattle.braid_spans.specs.declared.run.Run.{Run}
use Rattle.braid_spans.specs.Spans.{Spelled, spell, spelled_span, spelled, rows_of, row_in, deletions_of, deletions_in, deletions_at}
use Rattle.braid_spans.specs.Kept.{span_of, spans_of, chain_at, size_in, IsFitting, AreFitting}
use Rattle.braid_spans.specs.SeenRuns.{is_seen, is_seen_element, is_seen_run, seen_runs, places_from, places_in, seen_places, chars_in, seen_chars, seen_count}
use Rattle.braid_spans.proofs.Lists.{sum_by-cons}
use Rattle.braid_spans.proofs.Spelling.{text_length, length-spell}

any_append : {X : Type 0} (p : X → Bool) (xs ys : List X) → list_any p (xs ++ ys) ≡ (list_any p xs || list_any p ys)
any_append p [] ys = refl
any_append p (x ∷ xs) ys = ap (λ b. p x || b) (any_append p xs ys) ∙ or_assoc (p x) (list_any p xs) (list_any p ys)
  where
    or_assoc : (a b c : Bool) → (a || (b || c)) ≡ ((a || b) || c)
    or_assoc true b c = refl
    or_assoc false b c = refl

-- what deletes an element at this place, and at another
any_here : (marks : List Bool) (at : At) (by : List ℕ) → list_any (is_marked_deletion marks at) (deletions_at at by) ≡ list_any (has_mark marks) by
any_here marks at [] = refl
any_here marks at (n ∷ by) = ap (λ b. (b && has_mark marks n) || list_any (is_marked_deletion marks at) (deletions_at at by)) (same_place_itself at) ∙ ap (λ b. has_mark marks n || b) (any_here marks at by)

any_there : (marks : List Bool) (a at : At) (by : List ℕ) → ((a ≡ at) → ⊥) → list_any (is_marked_deletion marks at) (deletions_at a by) ≡ false
any_there marks a at [] ne = refl
any_there marks a at (n ∷ by) ne = ap (λ b. (b && has_mark marks n) || list_any (is_marked_deletion marks at) (deletions_at a by)) (other_place_false a at ne) ∙ any_there marks a at by ne

any_absent : (marks : List Bool) (es : List Spelled) (at : At) → (HasPlace (rows_of es) at → ⊥) → is_deleted_by marks (deletions_of es) at ≡ false
any_absent marks [] at none = refl
any_absent marks (e ∷ es) at none =
    any_append (is_marked_deletion marks at) (deletions_in e) (deletions_of es)
    ∙ ap (λ b. b || is_deleted_by marks (deletions_of es) at) (any_there marks e.row.at at e.by (λ f. none (inl f)))
    ∙ any_absent marks es at (λ h. none (inr h))

-- of elements with places of their own, with deletions of other places before
seen_behind : (marks : List Bool) (before : List RowDeletion) (es : List Spelled) → ((at : At) → HasPlace (rows_of es) at → is_deleted_by marks before at ≡ false) → HaveOwnPlaces (rows_of es)
    → filter (is_seen_by marks (before ++ deletions_of es)) (rows_of es) ≡ rows_of (filter (is_seen_element marks) es)
seen_behind marks before [] apart own = refl
seen_behind marks before (e ∷ es) apart own =
    ap (λ b. cond (has_mark marks e.row.at.version && not b) (e.row ∷ filter (is_seen_by marks (before ++ (deletions_in e ++ deletions_of es))) (rows_of es)) (filter (is_seen_by marks (before ++ (deletions_in e ++ deletions_of es))) (rows_of es))) here
    ∙ ap (λ t. cond (is_seen_element marks e) (e.row ∷ t) t) (ap (λ ds. filter (is_seen_by marks ds) (rows_of es)) (sym (append_assoc before (deletions_in e) (deletions_of es))) ∙ seen_behind marks (before ++ deletions_in e) es apart' own.1)
    ∙ pick (is_seen_element marks e)
  where
    here : is_deleted_by marks (before ++ (deletions_in e ++ deletions_of es)) e.row.at ≡ list_any (has_mark marks) e.by
    here =
        any_append (is_marked_deletion marks e.row.at) before (deletions_in e ++ deletions_of es)
        ∙ ap (λ b. b || list_any (is_marked_deletion marks e.row.at) (deletions_in e ++ deletions_of es)) (apart e.row.at (inl refl))
        ∙ any_append (is_marked_deletion marks e.row.at) (deletions_in e) (deletions_of es)
        ∙ ap (λ b. list_any (is_marked_deletion marks e.row.at) (deletions_in e) || b) (any_absent marks es e.row.at own.0)
        ∙ or_false (list_any (is_marked_deletion marks e.row.at) (deletions_in e))
        ∙ any_here marks e.row.at e.by
      where
        or_false : (a : Bool) → (a || false) ≡ a
        or_false true = refl
        or_false false = refl

    apart' : (at : At) → HasPlace (rows_of es) at → is_deleted_by marks (before ++ deletions_in e) at ≡ false
    apart' at h =
        any_append (is_marked_deletion marks at) before (deletions_in e)
        ∙ ap (λ b. b || list_any (is_marked_deletion marks at) (deletions_in e)) (apart at (inr h))
        ∙ any_there marks e.row.at at e.by (λ f. own.0 (subst (HasPlace (rows_of es)) (sym f) h))

    pick : (b : Bool) → cond b (e.row ∷ rows_of (filter (is_seen_element marks) es)) (rows_of (filter (is_seen_element marks) es)) ≡ rows_of (cond b (e ∷ filter (is_seen_element marks) es) (filter (is_seen_element marks) es))
    pick true = refl
    pick false = refl

pub seen_elements : (marks : List Bool) (es : List Spelled) → HaveOwnPlaces (rows_of es) → seen_rows marks (deletions_of es) (rows_of es) ≡ rows_of (filter (is_seen_element marks) es)
seen_elements marks es own = seen_behind marks [] es (λ at h. refl) own

-- all elements of a run are seen, or none is
run_seen : (marks : List Bool) (by : List ℕ) (version : ℕ) (origin : Option At) (n : ℕ) (cs : List ℕ) → filter (is_seen_element marks) (spell by version origin n cs) ≡ cond (is_seen marks version by) (spell by version origin n cs) []
run_seen marks by version origin n [] = none (is_seen marks version by)
  where
    nothing : List Spelled
    nothing = []

    none : (b : Bool) → nothing ≡ cond b nothing nothing
    none true = refl
    none false = refl
run_seen marks by version origin n (c ∷ cs) = ap (λ t. cond (is_seen marks version by) (x ∷ t) t) (run_seen marks by version (Some (place version n)) (n + 1) cs) ∙ pick (is_seen marks version by)
  where
    x : Spelled
    x = record { row = record { at = place version n; char = c; origin = origin }; by = by }

    pick : (b : Bool) → cond b (x ∷ cond b (spell by version (Some (place version n)) (n + 1) cs) []) (cond b (spell by version (Some (place version n)) (n + 1) cs) []) ≡ cond b (x ∷ spell by version (Some (place version n)) (n + 1) cs) []
    pick true = refl
    pick false = refl

pub seen_spelled : (marks : List Bool) (chars : List ℕ) (chains : List (List ℕ)) (rs : List Run) → filter (is_seen_element marks) (spelled (spans_of chars chains rs)) ≡ spelled (spans_of chars chains (seen_runs marks chains rs))
seen_spelled marks chars chains [] = refl
seen_spelled marks chars chains (r ∷ rs) =
    filter-append (is_seen_element marks) (spelled_span (span_of chars chains r)) (spelled (spans_of chars chains rs))
    ∙ ap (λ t. t ++ filter (is_seen_element marks) (spelled (spans_of chars chains rs))) (run_seen marks (chain_at chains r.newest) r.first.version r.origin r.first.ordinal (span_of chars chains r).text)
    ∙ ap (λ t. cond (is_seen_run marks chains r) (spelled_span (span_of chars chains r)) [] ++ t) (seen_spelled marks chars chains rs)
    ∙ pick (is_seen_run marks chains r)
  where
    pick : (b : Bool) → cond b (spelled_span (span_of chars chains r)) [] ++ spelled (spans_of chars chains (seen_runs marks chains rs)) ≡ spelled (spans_of chars chains (cond b (r ∷ seen_runs marks chains rs) (seen_runs marks chains rs)))
    pick true = refl
    pick false = refl

-- the places, the characters and the number of the elements of runs
spell_places : (by : List ℕ) (version : ℕ) (origin : Option At) (n : ℕ) (cs : List ℕ) → map place_in (rows_of (spell by version origin n cs)) ≡ places_from version n (length cs)
spell_places by version origin n [] = refl
spell_places by version origin n (c ∷ cs) = ap (λ t. place version n ∷ t) (spell_places by version (Some (place version n)) (n + 1) cs)

spell_chars : (by : List ℕ) (version : ℕ) (origin : Option At) (n : ℕ) (cs : List ℕ) → map char_in (rows_of (spell by version origin n cs)) ≡ cs
spell_chars by version origin n [] = refl
spell_chars by version origin n (c ∷ cs) = ap (λ t. c ∷ t) (spell_chars by version (Some (place version n)) (n + 1) cs)

rows_map : {X : Type 0} (f : Row → X) (xs ys : List Spelled) → map f (rows_of (xs ++ ys)) ≡ map f (rows_of xs) ++ map f (rows_of ys)
rows_map f xs ys = ap (map f) (map-append row_in xs ys) ∙ map-append f (rows_of xs) (rows_of ys)

module _ (versions : ℕ) (chars : List ℕ) (chains : List (List ℕ)) where
  pub spelled_places : (rs : List Run) → AreFitting versions chars chains rs → map place_in (rows_of (spelled (spans_of chars chains rs))) ≡ flat_map places_in rs
  spelled_places [] fit = refl
  spelled_places (r ∷ rs) fit =
      rows_map place_in (spelled_span (span_of chars chains r)) (spelled (spans_of chars chains rs))
      ∙ ap (λ t. t ++ map place_in (rows_of (spelled (spans_of chars chains rs)))) (spell_places (chain_at chains r.newest) r.first.version r.origin r.first.ordinal (span_of chars chains r).text
      ∙ ap (places_from r.first.version r.first.ordinal) (text_length versions (length chains) chars r (All-head (IsFitting versions (length chars) (length chains)) r rs fit)))
      ∙ ap (λ t. places_in r ++ t) (spelled_places rs (All-tail (IsFitting versions (length chars) (length chains)) r rs fit))

  pub spelled_chars : (rs : List Run) → map char_in (rows_of (spelled (spans_of chars chains rs))) ≡ flat_map (chars_in chars) rs
  spelled_chars [] = refl
  spelled_chars (r ∷ rs) =
      rows_map char_in (spelled_span (span_of chars chains r)) (spelled (spans_of chars chains rs))
      ∙ ap (λ t. t ++ map char_in (rows_of (spelled (spans_of chars chains rs)))) (spell_chars (chain_at chains r.newest) r.first.version r.origin r.first.ordinal (span_of chars chains r).text)
      ∙ ap (λ t. chars_in chars r ++ t) (spelled_chars rs)

  pub spelled_count : (rs : List Run) → AreFitting versions chars chains rs → length (rows_of (spelled (spans_of chars chains rs))) ≡ size_in rs
  spelled_count [] fit = refl
  spelled_count (r ∷ rs) fit =
      let a = ap length (map-append row_in (spelled_span (span_of chars chains r)) (spelled (spans_of chars chains rs))) ∙ length-append (rows_of (spelled_span (span_of chars chains r))) (rows_of (spelled (spans_of chars chains rs))) in
      let b = length-map (spelled_span (span_of chars chains r)) row_in ∙ length-spell (chain_at chains r.newest) r.first.version r.origin r.first.ordinal (span_of chars chains r).text
      ∙ text_length versions (length chains) chars r (All-head (IsFitting versions (length chars) (length chains)) r rs fit) in
      let c : size_in (r ∷ rs) ≡ r.len + size_in rs = sum_by-cons (λ (x : Run). x.len) r rs in
      omega (arith, a, b, c, spelled_count rs (All-tail (IsFitting versions (length chars) (length chains)) r rs fit))

  -- the same of what is seen
  module _ (marks : List Bool) (rs : List Run) (fit : AreFitting versions chars chains rs) (own : HaveOwnPlaces (rows_of (spelled (spans_of chars chains rs)))) where
    seen_fit : AreFitting versions chars chains (seen_runs marks chains rs)
    seen_fit = All-filter (is_seen_run marks chains) (IsFitting versions (length chars) (length chains)) rs fit

    pub seen_is : seen_rows marks (deletions_of (spelled (spans_of chars chains rs))) (rows_of (spelled (spans_of chars chains rs))) ≡ rows_of (spelled (spans_of chars chains (seen_runs marks chains rs)))
    seen_is = seen_elements marks (spelled (spans_of chars chains rs)) own ∙ ap rows_of (seen_spelled marks chars chains rs)

    pub seen_places_is : map place_in (seen_rows marks (deletions_of (spelled (spans_of chars chains rs))) (rows_of (spelled (spans_of chars chains rs)))) ≡ seen_places marks chains rs
    seen_places_is = ap (map place_in) seen_is ∙ spelled_places (seen_runs marks chains rs) seen_fit

    pub seen_chars_is : map char_in (seen_rows marks (deletions_of (spelled (spans_of chars chains rs))) (rows_of (spelled (spans_of chars chains rs)))) ≡ seen_chars marks chars chains rs
    seen_chars_is = ap (map char_in) seen_is ∙ spelled_chars (seen_runs marks chains rs)

    pub seen_count_is : length (seen_rows marks (deletions_of (spelled (spans_of chars chains rs))) (rows_of (spelled (spans_of chars chains rs)))) ≡ seen_count marks chains rs
    seen_count_is = ap length seen_is ∙ spelled_count (seen_runs marks chains rs) seen_fit
