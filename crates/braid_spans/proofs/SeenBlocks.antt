-- What marked versions see of blocks, one block after the other.
use Rattle.std.proofs.Common.{◌≡◌, ℕ, zero, suc, ◌+◌, ◌-◌, ◌<◌, List, [], ◌∷◌, ◌++◌, Some, Bool, length, take, drop, slice_get, sym, ap, ◌∙◌, arith, append_assoc}
use Rattle.std.specs.List.{flat_map}
use Rattle.std.proofs.lemmas.List.Elements.{filter-append}
use Rattle.std.proofs.lemmas.List.Concat.{flat_map-append}
use Rattle.std.proofs.lemmas.List.Sums.{sum_by-append}
use Rattle.std.proofs.lemmas.Option.{slice_get_within}
use Rattle.braid_tree.specs.declared.at.At.{At}
use Rattle.braid_spans.specs.declared.run.Run.{Run}
use Rattle.braid_spans.specs.Kept.{size_in}
use Rattle.braid_spans.specs.Blocks.{flat}
use Rattle.braid_spans.specs.SeenRuns.{is_seen_run, seen_runs, places_in, seen_places, chars_in, seen_chars, seen_count}
use Rattle.braid_spans.proofs.SeenSteps.{get_left, get_right, piece_both}
use Rattle.braid_spans.proofs.Sound.{places_count}
use Rattle.braid_spans.proofs.InBlocks.{flat_two, flat_head}

module _ (marks : List Bool) (chains : List (List ℕ)) where
  runs_append : (xs ys : List Run) → seen_runs marks chains (xs ++ ys) ≡ seen_runs marks chains xs ++ seen_runs marks chains ys
  runs_append xs ys = filter-append (is_seen_run marks chains) xs ys

  pub count_append : (xs ys : List Run) → seen_count marks chains (xs ++ ys) ≡ seen_count marks chains xs + seen_count marks chains ys
  count_append xs ys = ap size_in (runs_append xs ys) ∙ sum_by-append (λ (r : Run). r.len) (seen_runs marks chains xs) (seen_runs marks chains ys)

  pub places_append : (xs ys : List Run) → seen_places marks chains (xs ++ ys) ≡ seen_places marks chains xs ++ seen_places marks chains ys
  places_append xs ys = ap (flat_map places_in) (runs_append xs ys) ∙ flat_map-append places_in (seen_runs marks chains xs) (seen_runs marks chains ys)

  pub chars_append : (chars : List ℕ) (xs ys : List Run) → seen_chars marks chars chains (xs ++ ys) ≡ seen_chars marks chars chains xs ++ seen_chars marks chars chains ys
  chars_append chars xs ys = ap (flat_map (chars_in chars)) (runs_append xs ys) ∙ flat_map-append (chars_in chars) (seen_runs marks chains xs) (seen_runs marks chains ys)

  places_long : (rs : List Run) → length (seen_places marks chains rs) ≡ seen_count marks chains rs
  places_long rs = places_count (seen_runs marks chains rs)

  -- the block at hand and those behind it
  module _ (bs : List (List Run)) (i : ℕ) (b : List Run) (there : slice_get bs i ≡ Some b) where
    pub count_head : seen_count marks chains (flat (drop i bs)) ≡ seen_count marks chains b + seen_count marks chains (flat (drop (i + 1) bs))
    count_head = ap (seen_count marks chains) (flat_head bs i b there) ∙ count_append b (flat (drop (i + 1) bs))

    pub places_head : seen_places marks chains (flat (drop i bs)) ≡ seen_places marks chains b ++ seen_places marks chains (flat (drop (i + 1) bs))
    places_head = ap (seen_places marks chains) (flat_head bs i b there) ∙ places_append b (flat (drop (i + 1) bs))

    pub chars_head : (chars : List ℕ) → seen_chars marks chars chains (flat (drop i bs)) ≡ seen_chars marks chars chains b ++ seen_chars marks chars chains (flat (drop (i + 1) bs))
    chars_head chars = ap (seen_chars marks chars chains) (flat_head bs i b there) ∙ chars_append chars b (flat (drop (i + 1) bs))

    -- an element that the block at hand has, or has not
    pub nth_here : (n : ℕ) (at : At) → slice_get (seen_places marks chains b) n ≡ Some at → slice_get (seen_places marks chains (flat (drop i bs))) n ≡ Some at
    nth_here n at e =
        ap (λ t. slice_get t n) places_head
        ∙ get_left (seen_places marks chains b) (seen_places marks chains (flat (drop (i + 1) bs))) n (slice_get_within (seen_places marks chains b) n at e)
        ∙ e

    pub nth_next : (n left : ℕ) → seen_count marks chains b + left ≡ n → slice_get (seen_places marks chains (flat (drop (i + 1) bs))) left ≡ slice_get (seen_places marks chains (flat (drop i bs))) n
    nth_next n left e =
        let k = places_long b in
        let m : n - length (seen_places marks chains b) ≡ left = omega (arith, k, e) in
        sym (ap (λ t. slice_get t n) places_head
        ∙ get_right (seen_places marks chains b) (seen_places marks chains (flat (drop (i + 1) bs))) n (omega (arith, k, e))
        ∙ ap (slice_get (seen_places marks chains (flat (drop (i + 1) bs)))) m)

    -- a piece of what the block at hand and those behind it show
    pub piece_step : (old new : List At) (s t s' t' : ℕ) → new ≡ old ++ take t (drop s (seen_places marks chains b)) → (0 < t' → s' ≡ s - seen_count marks chains b) → t' ≡ t - (seen_count marks chains b - s)
        → new ++ take t' (drop s' (seen_places marks chains (flat (drop (i + 1) bs)))) ≡ old ++ take t (drop s (seen_places marks chains (flat (drop i bs))))
    piece_step old new s t s' t' e f g =
        let rest = seen_places marks chains (flat (drop (i + 1) bs)) in
        let here = seen_places marks chains b in
        let k = places_long b in
        ap (λ z. z ++ take t' (drop s' rest)) e
        ∙ append_assoc old (take t (drop s here)) (take t' (drop s' rest))
        ∙ ap (λ z. old ++ (take t (drop s here) ++ z)) (same rest t' s' (t - (length here - s)) (s - length here) (omega (arith, g, k)) (λ l. f l ∙ ap (λ (m : ℕ). s - m) (sym k)))
        ∙ ap (λ z. old ++ z) (sym (ap (λ z. take t (drop s z)) places_head ∙ piece_both here rest s t))
      where
        same : (rest : List At) (t' s' t2 s2 : ℕ) → t' ≡ t2 → (0 < t' → s' ≡ s2) → take t' (drop s' rest) ≡ take t2 (drop s2 rest)
        same rest zero s' t2 s2 e f = ap (λ m. take m (drop s2 rest)) e
        same rest (suc m) s' t2 s2 e f = ap (λ k. take (suc m) (drop k rest)) (f (omega arith)) ∙ ap (λ k. take k (drop s2 rest)) e

  -- blocks that are passed
  module _ (bs : List (List Run)) (k n left : ℕ) (passed : seen_count marks chains (flat (take k bs)) + left ≡ n) where
    pub nth_behind : slice_get (seen_places marks chains (flat (drop k bs))) left ≡ slice_get (seen_places marks chains (flat bs)) n
    nth_behind =
        let l = places_long (flat (take k bs)) in
        let m : n - length (seen_places marks chains (flat (take k bs))) ≡ left = omega (arith, l, passed) in
        sym (ap (λ t. slice_get (seen_places marks chains t) n) (flat_two bs k)
        ∙ ap (λ t. slice_get t n) (places_append (flat (take k bs)) (flat (drop k bs)))
        ∙ get_right (seen_places marks chains (flat (take k bs))) (seen_places marks chains (flat (drop k bs))) n (omega (arith, l, passed))
        ∙ ap (slice_get (seen_places marks chains (flat (drop k bs)))) m)

    pub drop_behind : drop left (seen_places marks chains (flat (drop k bs))) ≡ drop n (seen_places marks chains (flat bs))
    drop_behind =
        let l = places_long (flat (take k bs)) in
        let m : n ≡ length (seen_places marks chains (flat (take k bs))) + left = omega (arith, l, passed) in
        sym (ap (λ t. drop n (seen_places marks chains t)) (flat_two bs k)
        ∙ ap (drop n) (places_append (flat (take k bs)) (flat (drop k bs)))
        ∙ ap (λ (j : ℕ). drop j (seen_places marks chains (flat (take k bs)) ++ seen_places marks chains (flat (drop k bs)))) m
        ∙ past (seen_places marks chains (flat (take k bs))) (seen_places marks chains (flat (drop k bs))) left)
      where
        past : (xs ys : List At) (j : ℕ) → drop (length xs + j) (xs ++ ys) ≡ drop j ys
        past [] ys j = ap (λ (n : ℕ). drop n ys) none
          where
            none : 0 + j ≡ j
            none = omega arith
        past (x ∷ xs) ys j = ap (λ (n : ℕ). drop n (x ∷ (xs ++ ys))) one ∙ past xs ys j
          where
            one : length (x ∷ xs) + j ≡ suc (length xs + j)
            one = omega arith
