-- A cut of one run changes no element, and neither do two.
use Rattle.std.proofs.Common.{◌≡◌, ℕ, suc, ◌+◌, ◌<◌, List, ◌∷◌, ◌++◌, Some, length, take, drop, slice_get, get_or, refl, sym, ap, subst, ◌∙◌, arith, append_assoc}
use Rattle.std.proofs.Math.ListN.{set}
use Rattle.std.specs.List.{insert, remove}
use Rattle.std.proofs.lemmas.List.Sums.{sum_by-set, sum_by-remove}
use Rattle.std.proofs.lemmas.List.Elements.{All-set}
use Rattle.std.proofs.lemmas.Option.{slice_get_within, slice_get-get_or}
use Rattle.braid_spans.specs.declared.run.Run.{Run}
use Rattle.braid_spans.specs.Spans.{spelled_span, spelled}
use Rattle.braid_spans.specs.Kept.{span_of, spans_of, IsFitting, AreFitting, SpellsAlike, front_of, rest_of, size_in}
use Rattle.braid_spans.proofs.Lists.{all_got, one_item, parts, two_for_one, all_insert}
use Rattle.braid_spans.proofs.Spelling.{spelled-append, spans_of-append, cut_spelled, text_length, fitting_front, fitting_rest}

-- runs between others, spelled
pub spelled_parts : (chars : List ℕ) (chains : List (List ℕ)) (fs bs : List Run) (r : Run)
    → spelled (spans_of chars chains (fs ++ r ∷ bs)) ≡ spelled (spans_of chars chains fs) ++ (spelled_span (span_of chars chains r) ++ spelled (spans_of chars chains bs))
spelled_parts chars chains fs bs r =
    ap spelled (spans_of-append chars chains fs (r ∷ bs)) ∙ spelled-append (spans_of chars chains fs) (spans_of chars chains (r ∷ bs))

pub cut_alike : (rs : List Run) (i k : ℕ) (r : Run) → slice_get rs i ≡ Some r → 0 < k → k < r.len → SpellsAlike rs (insert (set rs i (front_of r k)) (i + 1) (rest_of r k))
cut_alike rs i k r e some l versions chars chains fit = (fitting, same)
  where
    fit_r : IsFitting versions (length chars) (length chains) r
    fit_r = all_got (IsFitting versions (length chars) (length chains)) rs i r fit e

    fitting : AreFitting versions chars chains (insert (set rs i (front_of r k)) (i + 1) (rest_of r k))
    fitting = all_insert (IsFitting versions (length chars) (length chains)) (set rs i (front_of r k)) (i + 1) (rest_of r k) (fitting_rest versions (length chars) (length chains) r k l fit_r)
        (All-set (IsFitting versions (length chars) (length chains)) rs i (front_of r k) (fitting_front versions (length chars) (length chains) r k some (omega (arith, l)) fit_r) fit)

    same : spelled (spans_of chars chains (insert (set rs i (front_of r k)) (i + 1) (rest_of r k))) ≡ spelled (spans_of chars chains rs)
    same =
        ap (λ t. spelled (spans_of chars chains t)) (two_for_one rs i r (front_of r k) (rest_of r k) e)
        ∙ spelled_parts chars chains (take i rs) (rest_of r k ∷ drop (suc i) rs) (front_of r k)
        ∙ ap (λ t. spelled (spans_of chars chains (take i rs)) ++ t) (sym (append_assoc (spelled_span (span_of chars chains (front_of r k))) (spelled_span (span_of chars chains (rest_of r k))) (spelled (spans_of chars chains (drop (suc i) rs))))
        ∙ ap (λ t. t ++ spelled (spans_of chars chains (drop (suc i) rs))) (cut_spelled chars chains r k some (let t = text_length versions (length chains) chars r fit_r in omega (arith, t, l)) (omega (arith, l))))
        ∙ sym (spelled_parts chars chains (take i rs) (drop (suc i) rs) r)
        ∙ ap (λ t. spelled (spans_of chars chains t)) (sym (parts rs i r e))

pub alike_then : (xs ys zs : List Run) → SpellsAlike xs ys → SpellsAlike ys zs → SpellsAlike xs zs
alike_then xs ys zs a b versions chars chains fit =
    let p = a versions chars chains fit in
    let q = b versions chars chains p.0 in (q.0, q.1 ∙ p.1)

pub alike_same : (xs : List Run) → SpellsAlike xs xs
alike_same xs versions chars chains fit = (fit, refl)

-- how many elements there are while a run is cut
pub size_set : (rs : List Run) (i : ℕ) (r x : Run) → slice_get rs i ≡ Some r → size_in (set rs i x) + r.len ≡ size_in rs + x.len
size_set rs i r x e =
    let l = slice_get_within rs i r e in
    let s : size_in (set rs i x) + (get_or rs i r).len ≡ size_in rs + x.len = sum_by-set (λ (y : Run). y.len) rs i x r l in
    let g : get_or rs i r ≡ r = one_item (get_or rs i r) r (slice_get rs i) (slice_get-get_or rs i r l) e in
    subst (λ (y : Run). size_in (set rs i x) + y.len ≡ size_in rs + x.len) g s

pub size_remove : (rs : List Run) (i : ℕ) (r : Run) → slice_get rs i ≡ Some r → size_in (remove rs i) + r.len ≡ size_in rs
size_remove rs i r e =
    let l = slice_get_within rs i r e in
    let s : size_in (remove rs i) + (get_or rs i r).len ≡ size_in rs = sum_by-remove (λ (y : Run). y.len) rs i r l in
    let g : get_or rs i r ≡ r = one_item (get_or rs i r) r (slice_get rs i) (slice_get-get_or rs i r l) e in
    subst (λ (y : Run). size_in (remove rs i) + y.len ≡ size_in rs) g s
