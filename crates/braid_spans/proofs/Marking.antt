-- What one more deletion of neighbours does to what contracts see.
use Rattle.std.proofs.Common.{◌≡◌, ℕ, zero, suc, ◌+◌, ◌<◌, ◌≤◌, List, [], ◌∷◌, ◌++◌, Option, Some, length, map, take, drop, slice_get, get_or, refl, sym, ap, subst, ◌∙◌, arith, append_assoc}
use Rattle.std.proofs.Math.ListN.{set}
use Rattle.std.proofs.lemmas.List.{length-append, length-drop, append-nil, drop-append-le, take-append-le, get_or_at}
use Rattle.std.proofs.lemmas.List.Elements.{All-take, All-drop, All-weaker, All-set, All-head, All-tail}
use Rattle.braid_tree.specs.declared.at.At.{At}
use Rattle.std.specs.List.Sorted.{IsPermutation}
use Rattle.braid_tree.specs.Rows.{PutsOne, RowDeletion, place}
use Rattle.braid_tree.proofs.Deletions.{puts_length, permuted_more, deletion_at}
use Rattle.braid_spans.specs.declared.run.Run.{Run}
use Rattle.braid_spans.specs.declared.link.Link.{Link}
use Rattle.braid_spans.specs.Spans.{Spelled, spell, spelled_span, spelled, rows_of, deletions_of, deletions_in}
use Rattle.braid_spans.specs.Kept.{span_of, spans_of, chain_at, chains_of, IsFitting, AreFitting, MarksOne, MarksEach, linked_to}
use Rattle.braid_spans.specs.SeenRuns.{places_from}
use Rattle.braid_spans.proofs.Lists.{all_got, parts, set_parts}
use Rattle.braid_spans.proofs.Chains.{chain_more, chains_count, chains_push}
use Rattle.braid_spans.proofs.Spelling.{rows_of-append, deletions_of-append, text_length}
use Rattle.braid_spans.proofs.Cutting.{spelled_parts}

-- the rows stay
pub marked_rows : (old new : List Spelled) (at : At) (by : ℕ) → MarksOne old new at by → rows_of new ≡ rows_of old
marked_rows old new at by (front, e, back, o, p, n) =
    ap rows_of n ∙ rows_of-append front (record { row = e.row; by = by ∷ e.by } ∷ back) ∙ sym (ap rows_of o ∙ rows_of-append front (e ∷ back))

-- and one deletion is put among the others
pub marked_deletions : (old new : List Spelled) (at : At) (by : ℕ) → MarksOne old new at by → PutsOne (deletions_of old) (record { at = at; by = by }) (deletions_of new)
marked_deletions old new at by (front, e, back, o, p, n) = (
  deletions_of front,
  deletions_in e ++ deletions_of back,
  ap deletions_of o ∙ deletions_of-append front (e ∷ back),
  ap deletions_of n ∙ deletions_of-append front (record { row = e.row; by = by ∷ e.by } ∷ back)
      ∙ ap (λ (a : At). deletions_of front ++ record { at = a; by = by } ∷ (deletions_in e ++ deletions_of back)) p,
)

-- runs whose chains are there are seen alike once there are more chains, and so are their characters
pub more_spans : (versions : ℕ) (chars more : List ℕ) (chains others : List (List ℕ)) (rs : List Run) → AreFitting versions chars chains rs → spans_of (chars ++ more) (chains ++ others) rs ≡ spans_of chars chains rs
more_spans versions chars more chains others [] fit = refl
more_spans versions chars more chains others (r ∷ rs) fit =
    ap (λ s. s ∷ spans_of (chars ++ more) (chains ++ others) rs) (λ i. record { first = r.first; origin = r.origin; text = text i; by = chain i })
    ∙ ap (λ t. span_of chars chains r ∷ t) (more_spans versions chars more chains others rs (All-tail (IsFitting versions (length chars) (length chains)) r rs fit))
  where
    fit_r : IsFitting versions (length chars) (length chains) r
    fit_r = All-head (IsFitting versions (length chars) (length chains)) r rs fit

    chain : chain_at (chains ++ others) r.newest ≡ chain_at chains r.newest
    chain = chain_more chains others r.newest fit_r.linked

    text : take r.len (drop r.start (chars ++ more)) ≡ take r.len (drop r.start chars)
    text = ap (take r.len) (drop-append-le r.start chars more (omega (arith, fit_r.within)))
        ∙ take-append-le r.len (drop r.start chars) more (let d = length-drop r.start chars in omega (arith, d, fit_r.within))

-- the same of neighbours that are deleted one after the other: the rows stay,
pub each_rows : (old new : List Spelled) (version n k by : ℕ) → MarksEach old new version n k by → rows_of new ≡ rows_of old
each_rows old new version n zero by e = ap rows_of (sym e)
each_rows old new version n (suc k) by (mid, one, more) = each_rows mid new version (n + 1) k by more ∙ marked_rows old mid (place version n) by one

-- there are as many more deletions,
pub each_count : (old new : List Spelled) (version n k by : ℕ) → MarksEach old new version n k by → length (deletions_of new) ≡ length (deletions_of old) + k
each_count old new version n zero by e = let l = ap (λ t. length (deletions_of t)) e in omega (arith, l)
each_count old new version n (suc k) by (mid, one, more) =
    let a = puts_length (deletions_of old) (deletions_of mid) (record { at = place version n; by = by }) (marked_deletions old mid (place version n) by one) in
    let b = each_count mid new version (n + 1) k by more in omega (arith, a, b)

-- and they are those that were there and the new ones, in some order
pub each_permuted : (done : List RowDeletion) (old new : List Spelled) (version n k by : ℕ) → IsPermutation done (deletions_of old) → MarksEach old new version n k by
    → IsPermutation (done ++ map (deletion_at by) (places_from version n k)) (deletions_of new)
each_permuted done old new version n zero by same e = subst (λ t. IsPermutation t (deletions_of new)) (sym (append-nil done)) (subst (λ t. IsPermutation done (deletions_of t)) e same)
each_permuted done old new version n (suc k) by same (mid, one, more) =
    subst (λ t. IsPermutation t (deletions_of new)) (append_assoc done (deletion_at by (place version n) ∷ []) (map (deletion_at by) (places_from version (n + 1) k)))
    (each_permuted (done ++ deletion_at by (place version n) ∷ []) mid new version (n + 1) k by (permuted_more done (deletions_of old) (deletions_of mid) (deletion_at by (place version n)) same (marked_deletions old mid (place version n) by one)) more)

-- one element alone
pub each_one : (old new : List Spelled) (at : At) (by : ℕ) → MarksOne old new at by → MarksEach old new at.version at.ordinal 1 by
each_one old new at by one = (new, one, refl)

pub one_each : (old new : List Spelled) (at : At) (by k : ℕ) → 0 < k → k ≤ 1 → MarksEach old new at.version at.ordinal k by → MarksOne old new at by
one_each old new at by zero some few m = absurd (omega (arith, some))
one_each old new at by (suc zero) some few (mid, one, e) = subst (λ t. MarksOne old t at by) e one
one_each old new at by (suc (suc k)) some few m = absurd (omega (arith, few))

-- the elements of a run between others
each_spelled : (front back : List Spelled) (by : ℕ) (chain : List ℕ) (version : ℕ) (origin : Option At) (n : ℕ) (cs : List ℕ)
    → MarksEach (front ++ (spell chain version origin n cs ++ back)) (front ++ (spell (by ∷ chain) version origin n cs ++ back)) version n (length cs) by
each_spelled front back by chain version origin n [] = refl
each_spelled front back by chain version origin n (c ∷ cs) = (
  front ++ (marked ∷ (old ++ back)),
  (front, record { row = record { at = place version n; char = c; origin = origin }; by = chain }, old ++ back, refl, refl, refl),
  subst (λ t. MarksEach t (front ++ (marked ∷ (new ++ back))) version (n + 1) (length cs) by) (append_assoc front (marked ∷ []) (old ++ back))
      (subst (λ t. MarksEach ((front ++ marked ∷ []) ++ (old ++ back)) t version (n + 1) (length cs) by) (append_assoc front (marked ∷ []) (new ++ back))
      (each_spelled (front ++ marked ∷ []) back by chain version (Some (place version n)) (n + 1) cs)),
)
  where
    marked : Spelled
    marked = record { row = record { at = place version n; char = c; origin = origin }; by = by ∷ chain }

    old : List Spelled
    old = spell chain version (Some (place version n)) (n + 1) cs

    new : List Spelled
    new = spell (by ∷ chain) version (Some (place version n)) (n + 1) cs

-- a run with one more deletion
module _ (versions by : ℕ) (chars : List ℕ) (links : List Link) (rs : List Run) (i : ℕ) (r : Run) (e : slice_get rs i ≡ Some r) (fit : AreFitting versions chars (chains_of links) rs) where
  chains : List (List ℕ)
  chains = chains_of links

  links' : List Link
  links' = links ++ record { by = by; earlier = r.newest } ∷ []

  fit_r : IsFitting versions (length chars) (length (chains_of links)) r
  fit_r = all_got (IsFitting versions (length chars) (length (chains_of links))) rs i r fit e

  pushed : chains_of (links ++ record { by = by; earlier = r.newest } ∷ []) ≡ chains_of links ++ (by ∷ chain_at (chains_of links) r.newest) ∷ []
  pushed = chains_push links (record { by = by; earlier = r.newest })

  longer : length (chains_of (links ++ record { by = by; earlier = r.newest } ∷ [])) ≡ length (chains_of links) + 1
  longer = ap length pushed ∙ length-append (chains_of links) ((by ∷ chain_at (chains_of links) r.newest) ∷ [])

  new_chain : chain_at (chains_of (links ++ record { by = by; earlier = r.newest } ∷ [])) (Some (length links)) ≡ by ∷ chain_at (chains_of links) r.newest
  new_chain = ap (λ (t : List (List ℕ)). get_or t (length links) []) pushed ∙ get_or_at (chains_of links) (by ∷ chain_at (chains_of links) r.newest) [] [] (length links) (chains_count links)

  weaker : (x : Run) → IsFitting versions (length chars) (length (chains_of links)) x → IsFitting versions (length chars) (length (chains_of (links ++ record { by = by; earlier = r.newest } ∷ []))) x
  weaker x f = record { some = f.some; known = f.known; within = f.within; linked = omega (arith, f.linked, longer); ordinals = f.ordinals }

  all_weaker : (xs : List Run) → AreFitting versions chars (chains_of links) xs → AreFitting versions chars (chains_of (links ++ record { by = by; earlier = r.newest } ∷ [])) xs
  all_weaker xs f = All-weaker (IsFitting versions (length chars) (length (chains_of links))) (IsFitting versions (length chars) (length (chains_of (links ++ record { by = by; earlier = r.newest } ∷ [])))) weaker xs f

  fitting_new : IsFitting versions (length chars) (length (chains_of (links ++ record { by = by; earlier = r.newest } ∷ []))) (linked_to r (length links))
  fitting_new = record { some = fit_r.some; known = fit_r.known; within = fit_r.within; linked = omega (arith, longer, chains_count links); ordinals = fit_r.ordinals }

  same_spans : (xs : List Run) → AreFitting versions chars (chains_of links) xs → spans_of chars (chains_of (links ++ record { by = by; earlier = r.newest } ∷ [])) xs ≡ spans_of chars (chains_of links) xs
  same_spans xs f =
      ap (λ t. spans_of chars t xs) pushed
      ∙ ap (λ t. spans_of t (chains_of links ++ (by ∷ chain_at (chains_of links) r.newest) ∷ []) xs) (sym (append-nil chars))
      ∙ more_spans versions chars [] (chains_of links) ((by ∷ chain_at (chains_of links) r.newest) ∷ []) xs f

  new_elements : spelled_span (span_of chars (chains_of (links ++ record { by = by; earlier = r.newest } ∷ [])) (linked_to r (length links))) ≡ spell (by ∷ chain_at (chains_of links) r.newest) r.first.version r.origin r.first.ordinal (take r.len (drop r.start chars))
  new_elements = ap (λ (b : List ℕ). spell b r.first.version r.origin r.first.ordinal (take r.len (drop r.start chars))) new_chain

  pub link_fits : AreFitting versions chars (chains_of (links ++ record { by = by; earlier = r.newest } ∷ [])) (set rs i (linked_to r (length links)))
  link_fits = All-set (IsFitting versions (length chars) (length (chains_of (links ++ record { by = by; earlier = r.newest } ∷ [])))) rs i (linked_to r (length links)) fitting_new (all_weaker rs fit)

  pub link_marks : MarksEach (spelled (spans_of chars (chains_of links) rs)) (spelled (spans_of chars (chains_of (links ++ record { by = by; earlier = r.newest } ∷ [])) (set rs i (linked_to r (length links))))) r.first.version r.first.ordinal r.len by
  link_marks =
      subst (λ (k : ℕ). MarksEach (spelled (spans_of chars (chains_of links) rs)) (spelled (spans_of chars (chains_of (links ++ record { by = by; earlier = r.newest } ∷ [])) (set rs i (linked_to r (length links))))) r.first.version r.first.ordinal k by)
      (text_length versions (length (chains_of links)) chars r fit_r)
      (subst (λ t. MarksEach t (spelled (spans_of chars (chains_of (links ++ record { by = by; earlier = r.newest } ∷ [])) (set rs i (linked_to r (length links))))) r.first.version r.first.ordinal (length (take r.len (drop r.start chars))) by) (sym old_parts)
      (subst (λ t. MarksEach (F ++ (spell (chain_at (chains_of links) r.newest) r.first.version r.origin r.first.ordinal (take r.len (drop r.start chars)) ++ B)) t r.first.version r.first.ordinal (length (take r.len (drop r.start chars))) by) (sym new_parts)
      (each_spelled F B by (chain_at (chains_of links) r.newest) r.first.version r.origin r.first.ordinal (take r.len (drop r.start chars)))))
    where
      F : List Spelled
      F = spelled (spans_of chars (chains_of links) (take i rs))

      B : List Spelled
      B = spelled (spans_of chars (chains_of links) (drop (suc i) rs))

      old_parts : spelled (spans_of chars (chains_of links) rs) ≡ F ++ (spell (chain_at (chains_of links) r.newest) r.first.version r.origin r.first.ordinal (take r.len (drop r.start chars)) ++ B)
      old_parts = ap (λ t. spelled (spans_of chars (chains_of links) t)) (parts rs i r e)
          ∙ spelled_parts chars (chains_of links) (take i rs) (drop (suc i) rs) r

      new_parts : spelled (spans_of chars (chains_of (links ++ record { by = by; earlier = r.newest } ∷ [])) (set rs i (linked_to r (length links)))) ≡ F ++ (spell (by ∷ chain_at (chains_of links) r.newest) r.first.version r.origin r.first.ordinal (take r.len (drop r.start chars)) ++ B)
      new_parts =
          ap (λ t. spelled (spans_of chars (chains_of (links ++ record { by = by; earlier = r.newest } ∷ [])) t)) (set_parts rs i r (linked_to r (length links)) e)
          ∙ spelled_parts chars (chains_of (links ++ record { by = by; earlier = r.newest } ∷ [])) (take i rs) (drop (suc i) rs) (linked_to r (length links))
          ∙ ap (λ t. spelled t ++ (spelled_span (span_of chars (chains_of (links ++ record { by = by; earlier = r.newest } ∷ [])) (linked_to r (length links))) ++ spelled (spans_of chars (chains_of (links ++ record { by = by; earlier = r.newest } ∷ [])) (drop (suc i) rs)))) (same_spans (take i rs) (All-take (IsFitting versions (length chars) (length (chains_of links))) i rs fit))
          ∙ ap (λ t. F ++ (spelled_span (span_of chars (chains_of (links ++ record { by = by; earlier = r.newest } ∷ [])) (linked_to r (length links))) ++ spelled t)) (same_spans (drop (suc i) rs) (All-drop (IsFitting versions (length chars) (length (chains_of links))) (suc i) rs fit))
          ∙ ap (λ t. F ++ (t ++ B)) new_elements
