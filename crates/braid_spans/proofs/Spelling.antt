-- Runs that are spelled out: their rows, their lengths, and what a cut leaves.
use Rattle.std.proofs.Common.{◌≡◌, ℕ, zero, suc, ◌+◌, ◌-◌, ◌<◌, ◌≤◌, List, [], ◌∷◌, ◌++◌, Option, Some, length, take, drop, refl, sym, ap, ◌∙◌, arith}
use Rattle.std.proofs.lemmas.List.{length-take-le, length-drop, map-append, take-append-drop, take-take, drop-take, drop-drop}
use Rattle.std.proofs.lemmas.List.Concat.{flat_map-append}
use Rattle.braid_tree.specs.declared.at.At.{At}
use Rattle.braid_tree.specs.Rows.{run_rows, place}
use Rattle.braid_spans.specs.declared.run.Run.{Run}
use Rattle.braid_spans.specs.Spans.{Span, Spelled, spell, spelled_span, spelled, rows_of, row_in, deletions_of, deletions_in}
use Rattle.braid_spans.specs.Kept.{span_of, spans_of, IsFitting, front_of, rest_of}

pub rows_of-spell : (by : List ℕ) (version : ℕ) (origin : Option At) (n : ℕ) (cs : List ℕ) → rows_of (spell by version origin n cs) ≡ run_rows version origin n cs
rows_of-spell by version origin n [] = refl
rows_of-spell by version origin n (c ∷ cs) = ap (λ t. record { at = place version n; char = c; origin = origin } ∷ t) (rows_of-spell by version (Some (place version n)) (n + 1) cs)

pub length-spell : (by : List ℕ) (version : ℕ) (origin : Option At) (n : ℕ) (cs : List ℕ) → length (spell by version origin n cs) ≡ length cs
length-spell by version origin n [] = refl
length-spell by version origin n (c ∷ cs) = ap suc (length-spell by version (Some (place version n)) (n + 1) cs)

pub spelled-append : (xs ys : List Span) → spelled (xs ++ ys) ≡ spelled xs ++ spelled ys
spelled-append xs ys = flat_map-append spelled_span xs ys

pub rows_of-append : (xs ys : List Spelled) → rows_of (xs ++ ys) ≡ rows_of xs ++ rows_of ys
rows_of-append xs ys = map-append row_in xs ys

pub deletions_of-append : (xs ys : List Spelled) → deletions_of (xs ++ ys) ≡ deletions_of xs ++ deletions_of ys
deletions_of-append xs ys = flat_map-append deletions_in xs ys

pub spans_of-append : (chars : List ℕ) (chains : List (List ℕ)) (xs ys : List Run) → spans_of chars chains (xs ++ ys) ≡ spans_of chars chains xs ++ spans_of chars chains ys
spans_of-append chars chains xs ys = map-append (span_of chars chains) xs ys

-- a run of characters in two parts
pub spell_cut : (by : List ℕ) (version : ℕ) (origin : Option At) (n c : ℕ) (cs ds : List ℕ)
    → spell by version origin n ((c ∷ cs) ++ ds) ≡ spell by version origin n (c ∷ cs) ++ spell by version (Some (place version (n + length cs))) (n + suc (length cs)) ds
spell_cut by version origin n c [] ds =
    ap (λ t. record { row = record { at = place version n; char = c; origin = origin }; by = by } ∷ t)
    (ap (λ m. spell by version (Some (place version m)) (n + 1) ds) (zero_more n))
  where
    zero_more : (m : ℕ) → m ≡ m + 0
    zero_more m = omega arith
spell_cut by version origin n c (d ∷ cs) ds =
    ap (λ t. record { row = record { at = place version n; char = c; origin = origin }; by = by } ∷ t)
    (spell_cut by version (Some (place version n)) (n + 1) d cs ds
    ∙ ap (λ m. spell by version (Some (place version n)) (n + 1) (d ∷ cs) ++ spell by version (Some (place version m)) (n + 1 + suc (length cs)) ds) one
    ∙ ap (λ m. spell by version (Some (place version n)) (n + 1) (d ∷ cs) ++ spell by version (Some (place version (n + length (d ∷ cs)))) m ds) two)
  where
    one : n + 1 + length cs ≡ n + suc (length cs)
    one = omega arith

    two : n + 1 + suc (length cs) ≡ n + suc (suc (length cs))
    two = omega arith

-- the same before character number k
pub spell_at : (by : List ℕ) (version : ℕ) (origin : Option At) (n k : ℕ) (cs : List ℕ) → 0 < k → k ≤ length cs
    → spell by version origin n cs ≡ spell by version origin n (take k cs) ++ spell by version (Some (place version (n + k - 1))) (n + k) (drop k cs)
spell_at by version origin n zero cs some l = absurd (omega (arith, some))
spell_at by version origin n (suc k) [] some l = absurd (omega (arith, l))
spell_at by version origin n (suc k) (c ∷ cs) some l =
    ap (spell by version origin n) (ap (λ t. c ∷ t) (sym (take-append-drop k cs)))
    ∙ spell_cut by version origin n c (take k cs) (drop k cs)
    ∙ ap (λ m. spell by version origin n (c ∷ take k cs) ++ spell by version (Some (place version (n + m))) (n + suc m) (drop k cs)) long
    ∙ ap (λ m. spell by version origin n (c ∷ take k cs) ++ spell by version (Some (place version m)) (n + suc k) (drop k cs)) one
  where
    long : length (take k cs) ≡ k
    long = length-take-le k cs (omega (arith, l))

    one : n + k ≡ n + suc k - 1
    one = omega arith

-- the characters of a run that is cut
chars_front : (chars : List ℕ) (start len k : ℕ) → k ≤ len → take k (drop start chars) ≡ take k (take len (drop start chars))
chars_front chars start len k l = sym (take-take k len (drop start chars) l)

chars_rest : (chars : List ℕ) (start len k : ℕ) → k ≤ len → take (len - k) (drop (start + k) chars) ≡ drop k (take len (drop start chars))
chars_rest chars start len k l =
    ap (take (len - k)) (sym (drop-drop k start chars))
    ∙ sym (drop-take k (len - k) (drop start chars))
    ∙ ap (λ m. drop k (take m (drop start chars))) sum
  where
    sum : k + (len - k) ≡ len
    sum = omega (arith, l)

pub text_length : (versions links : ℕ) (chars : List ℕ) (r : Run) → IsFitting versions (length chars) links r → length (take r.len (drop r.start chars)) ≡ r.len
text_length versions links chars r fit = length-take-le r.len (drop r.start chars) (let d = length-drop r.start chars in omega (arith, d, fit.within))

-- a cut changes no element
pub cut_spelled : (chars : List ℕ) (chains : List (List ℕ)) (r : Run) (k : ℕ) → 0 < k → k ≤ length (take r.len (drop r.start chars)) → k ≤ r.len
    → spelled_span (span_of chars chains (front_of r k)) ++ spelled_span (span_of chars chains (rest_of r k)) ≡ spelled_span (span_of chars chains r)
cut_spelled chars chains r k some l m = sym (
    spell_at by r.first.version r.origin r.first.ordinal k (take r.len (drop r.start chars)) some l
    ∙ ap (λ t. spell by r.first.version r.origin r.first.ordinal t ++ spell by r.first.version (Some (place r.first.version (r.first.ordinal + k - 1))) (r.first.ordinal + k) (drop k (take r.len (drop r.start chars)))) (sym (chars_front chars r.start r.len k m))
    ∙ ap (λ t. spell by r.first.version r.origin r.first.ordinal (take k (drop r.start chars)) ++ spell by r.first.version (Some (place r.first.version (r.first.ordinal + k - 1))) (r.first.ordinal + k) t) (sym (chars_rest chars r.start r.len k m))
    )
  where
    by : List ℕ
    by = (span_of chars chains r).by

pub fitting_front : (versions chars links : ℕ) (r : Run) (k : ℕ) → 0 < k → k ≤ r.len → IsFitting versions chars links r → IsFitting versions chars links (front_of r k)
fitting_front versions chars links r k some l fit = record { some = some; known = fit.known; within = omega (arith, fit.within, l); linked = fit.linked; ordinals = omega (arith, fit.ordinals, l) }

pub fitting_rest : (versions chars links : ℕ) (r : Run) (k : ℕ) → k < r.len → IsFitting versions chars links r → IsFitting versions chars links (rest_of r k)
fitting_rest versions chars links r k l fit = record { some = omega (arith, l); known = fit.known; within = omega (arith, fit.within, l); linked = fit.linked; ordinals = omega (arith, fit.ordinals, l) }
