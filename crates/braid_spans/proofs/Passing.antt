-- The first element of a run goes over to the end of the run before it.
use Rattle.std.proofs.Common.{◌≡◌, ℕ, zero, suc, ◌+◌, ◌-◌, ◌<◌, List, [], ◌∷◌, ◌++◌, Option, Some, length, take, drop, slice_get, get_or, refl, sym, ap, subst, ◌∙◌, arith, append_assoc, take-add}
use Rattle.std.proofs.Math.ListN.{set}
use Rattle.std.specs.List.{remove}
use Rattle.std.proofs.lemmas.List.{length-append, take_at, drop_at, set_at, drop-drop, drop_more}
use Rattle.std.proofs.lemmas.List.Elements.{All-append, All-cons, All-take, All-drop, All-same}
use Rattle.std.proofs.lemmas.List.Edits.{remove-append_right}
use Rattle.braid_tree.specs.declared.at.At.{At}
use Rattle.braid_tree.specs.Rows.{place}
use Rattle.braid_spans.specs.declared.run.Run.{Run}
use Rattle.braid_spans.specs.Spans.{Spelled, spell, spelled_span, spelled}
use Rattle.braid_spans.specs.Kept.{PassesFirst, span_of, spans_of, chain_at, IsFitting, AreFitting, IsNext, MarksOne, front_of, rest_of}
use Rattle.braid_spans.proofs.Lists.{all_got, one_item}
use Rattle.braid_spans.proofs.Spelling.{spell_at, cut_spelled, text_length, fitting_rest}
use Rattle.braid_spans.proofs.Cutting.{spelled_parts}

pub two_parts : {X : Type 0} (xs : List X) (i : ℕ) (x y : X) → slice_get xs i ≡ Some x → slice_get xs (suc i) ≡ Some y → xs ≡ take i xs ++ x ∷ y ∷ drop (suc (suc i)) xs
two_parts [] zero x y e f = cc
two_parts [] (suc i) x y e f = cc
two_parts (z ∷ []) zero x y e f = cc
two_parts (z ∷ (w ∷ xs)) zero x y e f = let a : z ≡ x = cc e in let b : w ≡ y = cc f in ap (λ t. t ∷ w ∷ xs) a ∙ ap (λ t. x ∷ t ∷ xs) b
two_parts (z ∷ xs) (suc i) x y e f = ap (λ t. z ∷ t) (two_parts xs i x y e f)

front_length : {X : Type 0} (xs : List X) (i : ℕ) (y : X) → slice_get xs (suc i) ≡ Some y → length (take i xs) ≡ i
front_length [] zero y f = refl
front_length [] (suc i) y f = cc
front_length (x ∷ xs) zero y f = refl
front_length (x ∷ xs) (suc i) y f = ap suc (front_length xs i y f)

-- the second of two is taken out, and the first replaced
remove_second : {X : Type 0} (fs bs : List X) (x y z : X) (i : ℕ) → length fs ≡ i → set (remove (fs ++ x ∷ y ∷ bs) (suc i)) i z ≡ fs ++ z ∷ bs
remove_second fs bs x y z i l =
    ap (λ t. set (remove t (suc i)) i z) (sym (append_assoc fs (x ∷ []) (y ∷ bs)))
    ∙ ap (λ t. set t i z) (remove-append_right (fs ++ x ∷ []) (y ∷ bs) (suc i) (suc i) long (omega arith))
    ∙ ap (λ m. set ((fs ++ x ∷ []) ++ remove (y ∷ bs) m) i z) none
    ∙ ap (λ t. set t i z) (append_assoc fs (x ∷ []) bs)
    ∙ set_at fs x bs z i l
  where
    long : length (fs ++ x ∷ []) ≡ suc i
    long = length-append fs (x ∷ []) ∙ (let e : length fs + 1 ≡ suc i = omega (arith, l) in e)

    none : suc i - suc i ≡ 0
    none = omega arith

-- both are replaced
set_both : {X : Type 0} (fs bs : List X) (x y z w : X) (i : ℕ) → length fs ≡ i → set (set (fs ++ x ∷ y ∷ bs) (suc i) w) i z ≡ fs ++ z ∷ w ∷ bs
set_both fs bs x y z w i l =
    ap (λ t. set (set t (suc i) w) i z) (sym (append_assoc fs (x ∷ []) (y ∷ bs)))
    ∙ ap (λ t. set t i z) (set_at (fs ++ x ∷ []) y bs w (suc i) long ∙ append_assoc fs (x ∷ []) (w ∷ bs))
    ∙ set_at fs x (w ∷ bs) z i l
  where
    long : length (fs ++ x ∷ []) ≡ suc i
    long = length-append fs (x ∷ []) ∙ (let e : length fs + 1 ≡ suc i = omega (arith, l) in e)

-- one more character of a run
spell_end : (by : List ℕ) (version : ℕ) (origin : Option At) (n c : ℕ) (cs : List ℕ) → 0 < length cs
    → spell by version origin n (cs ++ c ∷ []) ≡ spell by version origin n cs ++ record { row = record { at = place version (n + length cs); char = c; origin = Some (place version (n + length cs - 1)) }; by = by } ∷ []
spell_end by version origin n c cs some =
    spell_at by version origin n (length cs) (cs ++ c ∷ []) some (let l = length-append cs (c ∷ []) in omega (arith, l))
    ∙ ap (λ t. spell by version origin n t ++ spell by version (Some (place version (n + length cs - 1))) (n + length cs) (drop (length cs) (cs ++ c ∷ []))) (take_at cs (c ∷ []) (length cs) refl)
    ∙ ap (λ t. spell by version origin n cs ++ spell by version (Some (place version (n + length cs - 1))) (n + length cs) t) (drop_at cs (c ∷ []) (length cs) refl)

pub one_char : (chars : List ℕ) (start : ℕ) → start < length chars → take 1 (drop start chars) ≡ get_or chars start 0 ∷ []
one_char chars start l = ap (take 1) (drop_more chars start 0 l)

module _ (chars : List ℕ) (chains : List (List ℕ)) (versions by : ℕ) (l r : Run) (next : IsNext l r) (chain : chain_at chains l.newest ≡ by ∷ chain_at chains r.newest)
    (fit_l : IsFitting versions (length chars) (length chains) l) (fit_r : IsFitting versions (length chars) (length chains) r) where
  char : ℕ
  char = get_or chars r.start 0

  -- the element that goes over, as it was
  moved : Spelled
  moved = record { row = record { at = r.first; char = get_or chars r.start 0; origin = r.origin }; by = chain_at chains r.newest }

  starts : r.start < length chars
  starts = omega (arith, fit_r.within, fit_r.some)

  pub fitting_longer : IsFitting versions (length chars) (length chains) (front_of l (l.len + 1))
  fitting_longer = record { some = omega arith; known = fit_l.known; within = omega (arith, next.start, fit_r.within, fit_r.some); linked = fit_l.linked; ordinals = omega (arith, next.ordinal, fit_r.ordinals, fit_r.some) }

  text : List ℕ
  text = take l.len (drop l.start chars)

  text_is : length (take l.len (drop l.start chars)) ≡ l.len
  text_is = text_length versions (length chains) chars l fit_l

  longer_text : take (l.len + 1) (drop l.start chars) ≡ take l.len (drop l.start chars) ++ get_or chars r.start 0 ∷ []
  longer_text =
      take-add l.len 1 (drop l.start chars)
      ∙ ap (λ t. take l.len (drop l.start chars) ++ take 1 t) (drop-drop l.len l.start chars ∙ ap (λ m. drop m chars) next.start)
      ∙ ap (λ t. take l.len (drop l.start chars) ++ t) (one_char chars r.start starts)

  at_is : place l.first.version (l.first.ordinal + length (take l.len (drop l.start chars))) ≡ r.first
  at_is = let o : l.first.ordinal + length (take l.len (drop l.start chars)) ≡ r.first.ordinal = omega (arith, next.ordinal, text_is) in
      (λ i. record { version = next.version i; ordinal = o i })

  origin_is : Some (place l.first.version (l.first.ordinal + length (take l.len (drop l.start chars)) - 1)) ≡ r.origin
  origin_is = let o : l.first.ordinal + length (take l.len (drop l.start chars)) - 1 ≡ r.first.ordinal - 1 = omega (arith, next.ordinal, text_is) in
      ap Some (λ i. record { version = next.version i; ordinal = o i }) ∙ sym next.origin

  longer_spelled : spelled_span (span_of chars chains (front_of l (l.len + 1))) ≡ spelled_span (span_of chars chains l) ++ record { row = (record { at = r.first; char = get_or chars r.start 0; origin = r.origin }); by = by ∷ chain_at chains r.newest } ∷ []
  longer_spelled =
      ap (spell (chain_at chains l.newest) l.first.version l.origin l.first.ordinal) longer_text
      ∙ spell_end (chain_at chains l.newest) l.first.version l.origin l.first.ordinal (get_or chars r.start 0) (take l.len (drop l.start chars)) (omega (arith, text_is, fit_l.some))
      ∙ ap (λ t. spelled_span (span_of chars chains l) ++ t ∷ []) (λ i. record { row = record { at = at_is i; char = get_or chars r.start 0; origin = origin_is i }; by = chain i })

  first_spelled : spelled_span (span_of chars chains (front_of r 1)) ≡ moved ∷ []
  unfolding moved
  first_spelled = ap (spell (chain_at chains r.newest) r.first.version r.origin r.first.ordinal) (one_char chars r.start starts)

  rest_spelled : spelled_span (span_of chars chains r) ≡ moved ∷ spelled_span (span_of chars chains (rest_of r 1))
  rest_spelled =
      sym (cut_spelled chars chains r 1 (omega arith) (let t = text_length versions (length chains) chars r fit_r in omega (arith, t, fit_r.some)) (omega (arith, fit_r.some)))
      ∙ ap (λ t. t ++ spelled_span (span_of chars chains (rest_of r 1))) first_spelled

  last_spelled : r.len ≡ 1 → spelled_span (span_of chars chains r) ≡ moved ∷ []
  last_spelled e = ap (λ (n : ℕ). spell (chain_at chains r.newest) r.first.version r.origin r.first.ordinal (take n (drop r.start chars))) e ∙ first_spelled

  -- the elements around the one that goes over
  marks : (fs bs : List Run) (rest old new : List Spelled) → spelled_span (span_of chars chains r) ≡ moved ∷ rest
      → old ≡ spelled (spans_of chars chains fs) ++ (spelled_span (span_of chars chains l) ++ (spelled_span (span_of chars chains r) ++ spelled (spans_of chars chains bs)))
      → new ≡ spelled (spans_of chars chains fs) ++ (spelled_span (span_of chars chains (front_of l (l.len + 1))) ++ (rest ++ spelled (spans_of chars chains bs)))
      → MarksOne old new r.first by
  unfolding moved
  marks fs bs rest old new s o n = (
    spelled (spans_of chars chains fs) ++ spelled_span (span_of chars chains l),
    moved,
    rest ++ spelled (spans_of chars chains bs),
    o ∙ ap (λ t. spelled (spans_of chars chains fs) ++ (spelled_span (span_of chars chains l) ++ (t ++ spelled (spans_of chars chains bs)))) s
        ∙ sym (append_assoc (spelled (spans_of chars chains fs)) (spelled_span (span_of chars chains l)) (moved ∷ (rest ++ spelled (spans_of chars chains bs)))),
    refl,
    n ∙ ap (λ t. spelled (spans_of chars chains fs) ++ (t ++ (rest ++ spelled (spans_of chars chains bs)))) longer_spelled
        ∙ ap (λ t. spelled (spans_of chars chains fs) ++ t) (append_assoc (spelled_span (span_of chars chains l)) (record { row = (record { at = r.first; char = get_or chars r.start 0; origin = r.origin }); by = by ∷ chain_at chains r.newest } ∷ []) (rest ++ spelled (spans_of chars chains bs)))
        ∙ sym (append_assoc (spelled (spans_of chars chains fs)) (spelled_span (span_of chars chains l)) (record { row = (record { at = r.first; char = get_or chars r.start 0; origin = r.origin }); by = by ∷ chain_at chains r.newest } ∷ (rest ++ spelled (spans_of chars chains bs)))),
  )

  old_spelled : (fs bs : List Run) → spelled (spans_of chars chains (fs ++ l ∷ r ∷ bs)) ≡ spelled (spans_of chars chains fs) ++ (spelled_span (span_of chars chains l) ++ (spelled_span (span_of chars chains r) ++ spelled (spans_of chars chains bs)))
  old_spelled fs bs = spelled_parts chars chains fs (r ∷ bs) l

  -- of a run of one element nothing is left
  pub pass_last : (rs : List Run) (i : ℕ) → r.len ≡ 1 → slice_get rs i ≡ Some l → slice_get rs (suc i) ≡ Some r → AreFitting versions chars chains rs
      → AreFitting versions chars chains (set (remove rs (suc i)) i (front_of l (l.len + 1)))
      × MarksOne (spelled (spans_of chars chains rs)) (spelled (spans_of chars chains (set (remove rs (suc i)) i (front_of l (l.len + 1))))) r.first by
  pass_last rs i one e f fit = (
    All-same (IsFitting versions (length chars) (length chains)) (set (remove rs (suc i)) i (front_of l (l.len + 1))) (take i rs ++ front_of l (l.len + 1) ∷ drop (suc (suc i)) rs) shape
        (All-append (IsFitting versions (length chars) (length chains)) (take i rs) (front_of l (l.len + 1) ∷ drop (suc (suc i)) rs) (All-take (IsFitting versions (length chars) (length chains)) i rs fit)
        (All-cons (IsFitting versions (length chars) (length chains)) (front_of l (l.len + 1)) (drop (suc (suc i)) rs) fitting_longer (All-drop (IsFitting versions (length chars) (length chains)) (suc (suc i)) rs fit))),
    marks (take i rs) (drop (suc (suc i)) rs) [] (spelled (spans_of chars chains rs)) (spelled (spans_of chars chains (set (remove rs (suc i)) i (front_of l (l.len + 1))))) (last_spelled one)
        (ap (λ t. spelled (spans_of chars chains t)) (two_parts rs i l r e f) ∙ old_spelled (take i rs) (drop (suc (suc i)) rs))
        (ap (λ t. spelled (spans_of chars chains t)) shape ∙ spelled_parts chars chains (take i rs) (drop (suc (suc i)) rs) (front_of l (l.len + 1))),
  )
    where
      shape : set (remove rs (suc i)) i (front_of l (l.len + 1)) ≡ take i rs ++ front_of l (l.len + 1) ∷ drop (suc (suc i)) rs
      shape = ap (λ t. set (remove t (suc i)) i (front_of l (l.len + 1))) (two_parts rs i l r e f) ∙ remove_second (take i rs) (drop (suc (suc i)) rs) l r (front_of l (l.len + 1)) i (front_length rs i r f)

  pub pass_one : (rs : List Run) (i : ℕ) → 1 < r.len → slice_get rs i ≡ Some l → slice_get rs (suc i) ≡ Some r → AreFitting versions chars chains rs
      → AreFitting versions chars chains (set (set rs (suc i) (rest_of r 1)) i (front_of l (l.len + 1)))
      × MarksOne (spelled (spans_of chars chains rs)) (spelled (spans_of chars chains (set (set rs (suc i) (rest_of r 1)) i (front_of l (l.len + 1))))) r.first by
  pass_one rs i more e f fit = (
    All-same (IsFitting versions (length chars) (length chains)) (set (set rs (suc i) (rest_of r 1)) i (front_of l (l.len + 1))) (take i rs ++ front_of l (l.len + 1) ∷ rest_of r 1 ∷ drop (suc (suc i)) rs) shape
        (All-append (IsFitting versions (length chars) (length chains)) (take i rs) (front_of l (l.len + 1) ∷ rest_of r 1 ∷ drop (suc (suc i)) rs) (All-take (IsFitting versions (length chars) (length chains)) i rs fit)
        (All-cons (IsFitting versions (length chars) (length chains)) (front_of l (l.len + 1)) (rest_of r 1 ∷ drop (suc (suc i)) rs) fitting_longer
        (All-cons (IsFitting versions (length chars) (length chains)) (rest_of r 1) (drop (suc (suc i)) rs) (fitting_rest versions (length chars) (length chains) r 1 more fit_r) (All-drop (IsFitting versions (length chars) (length chains)) (suc (suc i)) rs fit)))),
    marks (take i rs) (drop (suc (suc i)) rs) (spelled_span (span_of chars chains (rest_of r 1))) (spelled (spans_of chars chains rs)) (spelled (spans_of chars chains (set (set rs (suc i) (rest_of r 1)) i (front_of l (l.len + 1))))) rest_spelled
        (ap (λ t. spelled (spans_of chars chains t)) (two_parts rs i l r e f) ∙ old_spelled (take i rs) (drop (suc (suc i)) rs))
        (ap (λ t. spelled (spans_of chars chains t)) shape ∙ spelled_parts chars chains (take i rs) (rest_of r 1 ∷ drop (suc (suc i)) rs) (front_of l (l.len + 1))),
  )
    where
      shape : set (set rs (suc i) (rest_of r 1)) i (front_of l (l.len + 1)) ≡ take i rs ++ front_of l (l.len + 1) ∷ rest_of r 1 ∷ drop (suc (suc i)) rs
      shape = ap (λ t. set (set t (suc i) (rest_of r 1)) i (front_of l (l.len + 1))) (two_parts rs i l r e f) ∙ set_both (take i rs) (drop (suc (suc i)) rs) l r (front_of l (l.len + 1)) (rest_of r 1) i (front_length rs i r f)

-- of whatever the two runs are
pub passes_last : (rs : List Run) (index : ℕ) (l r : Run) → 0 < index → slice_get rs (index - 1) ≡ Some l → slice_get rs index ≡ Some r → IsNext l r → r.len ≡ 1
    → PassesFirst rs (set (remove rs index) (index - 1) (front_of l (l.len + 1))) index
passes_last rs index l r some e f next one l' r' versions by chars chains e' f' chain fit =
    subst (λ (x : Run). AreFitting versions chars chains (set (remove rs index) (index - 1) (front_of l (l.len + 1))) × MarksOne (spelled (spans_of chars chains rs)) (spelled (spans_of chars chains (set (remove rs index) (index - 1) (front_of l (l.len + 1))))) x.first by) (sym er)
    (subst (λ (n : ℕ). AreFitting versions chars chains (set (remove rs n) (index - 1) (front_of l (l.len + 1))) × MarksOne (spelled (spans_of chars chains rs)) (spelled (spans_of chars chains (set (remove rs n) (index - 1) (front_of l (l.len + 1))))) r.first by) (sym s)
    (pass_last chars chains versions by l r next chain' (all_got (IsFitting versions (length chars) (length chains)) rs (index - 1) l fit e) (all_got (IsFitting versions (length chars) (length chains)) rs index r fit f)
    rs (index - 1) one e (subst (λ (n : ℕ). slice_get rs n ≡ Some r) s f) fit))
  where
    s : index ≡ suc (index - 1)
    s = omega (arith, some)

    el : l' ≡ l
    el = one_item l' l (slice_get rs (index - 1)) e' e

    er : r' ≡ r
    er = one_item r' r (slice_get rs index) f' f

    chain' : chain_at chains l.newest ≡ by ∷ chain_at chains r.newest
    chain' = subst (λ (x : Run). chain_at chains x.newest ≡ by ∷ chain_at chains r.newest) el (subst (λ (x : Run). chain_at chains l'.newest ≡ by ∷ chain_at chains x.newest) er chain)

pub passes_one : (rs : List Run) (index : ℕ) (l r : Run) → 0 < index → slice_get rs (index - 1) ≡ Some l → slice_get rs index ≡ Some r → IsNext l r → 1 < r.len
    → PassesFirst rs (set (set rs index (rest_of r 1)) (index - 1) (front_of l (l.len + 1))) index
passes_one rs index l r some e f next more l' r' versions by chars chains e' f' chain fit =
    subst (λ (x : Run). AreFitting versions chars chains (set (set rs index (rest_of r 1)) (index - 1) (front_of l (l.len + 1))) × MarksOne (spelled (spans_of chars chains rs)) (spelled (spans_of chars chains (set (set rs index (rest_of r 1)) (index - 1) (front_of l (l.len + 1))))) x.first by) (sym er)
    (subst (λ (n : ℕ). AreFitting versions chars chains (set (set rs n (rest_of r 1)) (index - 1) (front_of l (l.len + 1))) × MarksOne (spelled (spans_of chars chains rs)) (spelled (spans_of chars chains (set (set rs n (rest_of r 1)) (index - 1) (front_of l (l.len + 1))))) r.first by) (sym s)
    (pass_one chars chains versions by l r next chain' (all_got (IsFitting versions (length chars) (length chains)) rs (index - 1) l fit e) (all_got (IsFitting versions (length chars) (length chains)) rs index r fit f)
    rs (index - 1) more e (subst (λ (n : ℕ). slice_get rs n ≡ Some r) s f) fit))
  where
    s : index ≡ suc (index - 1)
    s = omega (arith, some)

    el : l' ≡ l
    el = one_item l' l (slice_get rs (index - 1)) e' e

    er : r' ≡ r
    er = one_item r' r (slice_get rs index) f' f

    chain' : chain_at chains l.newest ≡ by ∷ chain_at chains r.newest
    chain' = subst (λ (x : Run). chain_at chains x.newest ≡ by ∷ chain_at chains r.newest) el (subst (λ (x : Run). chain_at chains l'.newest ≡ by ∷ chain_at chains x.newest) er chain)

-- what stands before an item stays where the item goes or changes
before_remove : {X : Type 0} (xs : List X) (i : ℕ) → slice_get (remove xs (suc i)) i ≡ slice_get xs i
before_remove [] zero = refl
before_remove [] (suc i) = refl
before_remove (x ∷ xs) zero = refl
before_remove (x ∷ xs) (suc i) = before_remove xs i

before_set : {X : Type 0} (xs : List X) (i : ℕ) (y : X) → slice_get (set xs (suc i) y) i ≡ slice_get xs i
before_set [] zero y = refl
before_set [] (suc i) y = refl
before_set (x ∷ xs) zero y = refl
before_set (x ∷ xs) (suc i) y = before_set xs i y

pub kept_by_remove : (rs : List Run) (index : ℕ) (l : Run) → 0 < index → slice_get rs (index - 1) ≡ Some l → slice_get (remove rs index) (index - 1) ≡ Some l
kept_by_remove rs index l some e = let s : index ≡ suc (index - 1) = omega (arith, some) in ap (λ (n : ℕ). slice_get (remove rs n) (index - 1)) s ∙ before_remove rs (index - 1) ∙ e

pub kept_by_set : (rs : List Run) (index : ℕ) (l x : Run) → 0 < index → slice_get rs (index - 1) ≡ Some l → slice_get (set rs index x) (index - 1) ≡ Some l
kept_by_set rs index l x some e = let s : index ≡ suc (index - 1) = omega (arith, some) in ap (λ (n : ℕ). slice_get (set rs n x) (index - 1)) s ∙ before_set rs (index - 1) x ∙ e
