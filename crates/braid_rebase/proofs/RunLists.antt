-- Runs and places of ranges: one range more, and of a piece of the places that reaches over all ranges.
use Rattle.std.proofs.Common.{◌≡◌, ℕ, zero, suc, ◌+◌, ◌-◌, ◌<◌, ◌≤◌, List, [], ◌∷◌, ◌++◌, Option, length, take, drop, get_or, refl, sym, ap, subst, ◌∙◌, arith, append_assoc, slice_get}
use Rattle.std.proofs.lemmas.List.{append-nil, take_all, map-append, drop_more, length-drop, length-take-le, drop-take}
use Rattle.std.proofs.lemmas.List.Sums.{sum_by-cons, sum_by-append}
use Rattle.braid_ids.proofs.Members.{slice_get-take}
use Rattle.braid_change.specs.declared.patch.Patch.{Patch}
use Rattle.braid_change.specs.Splices.{AreRanges, inserted}
use Rattle.braid_tree.specs.declared.at.At.{At}
use Rattle.braid_rebase.specs.declared.run.Run.{Run}
use Rattle.braid_rebase.specs.Resolved.{place_before, runs_at, places_at}
use Rattle.braid_rebase.specs.Pieces.{moved_range, moved, first_needed, end_of, last_end}

-- one more run
runs_end : (places : List At) (n : ℕ) (rs : List Patch) (r : Patch) → runs_at places n (rs ++ r ∷ []) ≡ runs_at places n rs ++ record { after = place_before places r.start; text = r.text; ordinal = n + inserted rs } ∷ []
runs_end places n [] r = let e : n ≡ n + inserted [] = omega arith in ap (λ (k : ℕ). record { after = place_before places r.start; text = r.text; ordinal = k } ∷ []) e
runs_end places n (q ∷ rs) r =
    let e : (n + length q.text) + inserted rs ≡ n + inserted (q ∷ rs) = omega (arith, sum_by-cons (λ (p : Patch). length p.text) q rs) in
    ap (λ t. record { after = place_before places q.start; text = q.text; ordinal = n } ∷ t) (runs_end places (n + length q.text) rs r)
    ∙ ap (λ (k : ℕ). record { after = place_before places q.start; text = q.text; ordinal = n } ∷ (runs_at places (n + length q.text) rs ++ record { after = place_before places r.start; text = r.text; ordinal = k } ∷ [])) e

moved_inserts : (first : ℕ) (rs : List Patch) → inserted (moved first rs) ≡ inserted rs
moved_inserts first [] = refl
moved_inserts first (r ∷ rs) = sum_by-cons (λ (p : Patch). length p.text) (moved_range first r) (moved first rs) ∙ ap (λ (n : ℕ). length r.text + n) (moved_inserts first rs) ∙ sym (sum_by-cons (λ (p : Patch). length p.text) r rs)

pub run_pushed : (places : List At) (first ordinal : ℕ) (rs : List Patch) (r : Patch) (after : Option At) (old new : List Run) → old ≡ runs_at places 0 (moved first rs) → ordinal ≡ inserted rs → after ≡ place_before places (r.start - first)
    → new ≡ old ++ record { after = after; text = r.text; ordinal = ordinal } ∷ [] → new ≡ runs_at places 0 (moved first (rs ++ r ∷ []))
run_pushed places first ordinal rs r after old new inv count at made =
    let k : ordinal ≡ 0 + inserted (moved first rs) = omega (arith, count, moved_inserts first rs) in
    made ∙ ap (λ t. t ++ record { after = after; text = r.text; ordinal = ordinal } ∷ []) inv
    ∙ ap (λ (o : Option At). runs_at places 0 (moved first rs) ++ record { after = o; text = r.text; ordinal = ordinal } ∷ []) at
    ∙ ap (λ (n : ℕ). runs_at places 0 (moved first rs) ++ record { after = place_before places (r.start - first); text = r.text; ordinal = n } ∷ []) k
    ∙ sym (ap (runs_at places 0) (map-append (moved_range first) rs (r ∷ [])) ∙ runs_end places 0 (moved first rs) (moved_range first r))

pub inserted_pushed : (ordinal : ℕ) (rs : List Patch) (r : Patch) → ordinal ≡ inserted rs → ordinal + length r.text ≡ inserted (rs ++ r ∷ [])
inserted_pushed ordinal rs r e = omega (arith, e, sum_by-append (λ (p : Patch). length p.text) rs (r ∷ []), sum_by-cons (λ (p : Patch). length p.text) r [])

-- the places of what is left of the ranges
pub places_pushed : (places : List At) (first i : ℕ) (rs : List Patch) (r : Patch) (old new : List At) → i < length rs → r ≡ get_or rs i r → new ≡ old ++ take ((r.end - first) - (r.start - first)) (drop (r.start - first) places)
    → old ++ places_at places (moved first (drop i rs)) ≡ places_at places (moved first rs) → new ++ places_at places (moved first (drop (i + 1) rs)) ≡ places_at places (moved first rs)
places_pushed places first i rs r old new l is made inv =
    ap (λ t. t ++ places_at places (moved first (drop (i + 1) rs))) made
    ∙ append_assoc old (take ((r.end - first) - (r.start - first)) (drop (r.start - first) places)) (places_at places (moved first (drop (i + 1) rs)))
    ∙ sym (ap (λ t. old ++ places_at places (moved first t)) (drop_more rs i r l ∙ ap (λ (q : Patch). q ∷ drop (i + 1) rs) (sym is))) ∙ inv

-- what ranges are left, and the one at hand
pub ranges_left : (first len i : ℕ) (rs : List Patch) (r : Patch) → i < length rs → r ≡ get_or rs i r → (low : ℕ) × (first ≤ low) × AreRanges low len (drop i rs)
    → (first ≤ r.start) × (r.start ≤ r.end) × (r.end ≤ len) × ((low : ℕ) × (first ≤ low) × AreRanges low len (drop (i + 1) rs))
ranges_left first len i rs r l is (low, a, rg) = go (subst (AreRanges low len) (drop_more rs i r l ∙ ap (λ (q : Patch). q ∷ drop (i + 1) rs) (sym is)) rg)
  where
    go : AreRanges low len (r ∷ drop (i + 1) rs) → (first ≤ r.start) × (r.start ≤ r.end) × (r.end ≤ len) × ((low : ℕ) × (first ≤ low) × AreRanges low len (drop (i + 1) rs))
    go h = (omega (arith, a, h.0), h.1, h.2, (r.end, omega (arith, a, h.0, h.1), h.4))

-- ranges end at the end of the last
last_next : (r q : Patch) (rs : List Patch) → last_end (r ∷ q ∷ rs) ≡ last_end (q ∷ rs)
last_next r q rs = let e : length (r ∷ q ∷ rs) - 1 ≡ suc (length (q ∷ rs) - 1) = omega arith in ap (λ (k : ℕ). end_of (slice_get (r ∷ q ∷ rs) k)) e

end_after : (rs : List Patch) (low len : ℕ) → AreRanges low len rs → (r : Patch) (qs : List Patch) → rs ≡ r ∷ qs → low ≤ last_end rs
end_after [] low len h r qs e = cc
end_after (p ∷ []) low len h r qs e = omega (arith, h.0, h.1)
end_after (p ∷ (q ∷ rs)) low len h r qs e = omega (arith, h.0, h.1, end_after (q ∷ rs) p.end len h.4 q rs refl, last_next p q rs)

pub ranges_end : (rs : List Patch) (low len : ℕ) → AreRanges low len rs → AreRanges low (last_end rs) rs
ranges_end [] low len h = tt
ranges_end (r ∷ []) low len h = (h.0, h.1, omega arith, tt, tt)
ranges_end (r ∷ (q ∷ rs)) low len h =
    let e : last_end (r ∷ q ∷ rs) ≡ last_end (q ∷ rs) = last_next r q rs in
    subst (λ (n : ℕ). AreRanges low n (r ∷ q ∷ rs)) (sym e) (h.0, h.1, end_after (q ∷ rs) r.end len h.4 q rs refl, h.3, ranges_end (q ∷ rs) r.end len h.4)

pub end_within : (rs : List Patch) (low len : ℕ) → AreRanges low len rs → last_end rs ≤ len
end_within [] low len h = omega arith
end_within (r ∷ []) low len h = h.2
end_within (r ∷ (q ∷ rs)) low len h = omega (arith, last_next r q rs, end_within (q ∷ rs) r.end len h.4)

-- from the number before the first range on
pub ranges_first : (rs : List Patch) (len : ℕ) → AreRanges 0 len rs → AreRanges (first_needed rs) len rs
ranges_first [] len h = tt
ranges_first (r ∷ rs) len h = (omega arith, h.1, h.2, h.3, h.4)

-- a piece of the places that reaches over ranges gives their runs and places
module _ (places : List At) (first to : ℕ) (within : to ≤ length places) where
  abbrev piece : List At
  piece = take (to - first) (drop first places)

  before_in_piece : (s : ℕ) → (first ≤ s - 1) → s ≤ to → place_before piece (s - first) ≡ place_before places s
  before_in_piece zero l m = let e : zero - first ≡ 0 = omega arith in ap (place_before piece) e
  before_in_piece (suc s) l m =
      let e : suc s - first ≡ suc (s - first) = omega (arith, l) in
      let f : first + (s - first) ≡ s = omega (arith, l) in
      ap (place_before piece) e ∙ slice_get-take (to - first) (drop first places) (s - first) (omega (arith, l, m)) ∙ from_drop places first (s - first) ∙ ap (slice_get places) f
    where
      from_drop : (xs : List At) (n k : ℕ) → slice_get (drop n xs) k ≡ slice_get xs (n + k)
      from_drop xs zero k = let e : k ≡ zero + k = omega arith in ap (slice_get xs) e
      from_drop [] (suc n) zero = let e : suc n + zero ≡ suc n = omega arith in ap (λ (j : ℕ). slice_get {X = At} [] j) (sym e)
      from_drop [] (suc n) (suc k) = let e : suc n + suc k ≡ suc (n + suc k) = omega arith in ap (λ (j : ℕ). slice_get {X = At} [] j) (sym e)
      from_drop (x ∷ xs) (suc n) k = let e : suc n + k ≡ suc (n + k) = omega arith in from_drop xs n k ∙ ap (λ (j : ℕ). slice_get (x ∷ xs) j) (sym e)

  pub runs_of_piece : (rs : List Patch) (n low : ℕ) → first ≤ low - 1 → AreRanges low to rs → runs_at piece n (moved first rs) ≡ runs_at places n rs
  runs_of_piece [] n low l h = refl
  runs_of_piece (r ∷ rs) n low l h =
      ap (λ (o : Option At). record { after = o; text = r.text; ordinal = n } ∷ runs_at piece (n + length r.text) (moved first rs)) (before_in_piece r.start (omega (arith, l, h.0)) (omega (arith, h.1, h.2)))
      ∙ ap (λ t. record { after = place_before places r.start; text = r.text; ordinal = n } ∷ t) (runs_of_piece rs (n + length r.text) r.end (omega (arith, l, h.0, h.1)) h.4)

  pub places_of_piece : (rs : List Patch) (low : ℕ) → first ≤ low → AreRanges low to rs → places_at piece (moved first rs) ≡ places_at places rs
  places_of_piece [] low l h = refl
  places_of_piece (r ∷ rs) low l h =
      let a : (r.end - first) - (r.start - first) ≡ r.end - r.start = omega (arith, l, h.0) in
      let b : (r.start - first) + ((to - first) - (r.start - first)) ≡ to - first = omega (arith, l, h.0, h.1, h.2) in
      let d : first + (r.start - first) ≡ r.start = omega (arith, l, h.0) in
      ap (λ (n : ℕ). take n (drop (r.start - first) piece) ++ places_at piece (moved first rs)) a
      ∙ ap (λ t. take (r.end - r.start) t ++ places_at piece (moved first rs)) (ap (λ (n : ℕ). drop (r.start - first) (take n (drop first places))) (sym b) ∙ drop-take (r.start - first) ((to - first) - (r.start - first)) (drop first places))
      ∙ ap (λ t. t ++ places_at piece (moved first rs)) (shorter (drop (r.start - first) (drop first places)) (r.end - r.start) ((to - first) - (r.start - first)) (omega (arith, h.1, h.2)))
      ∙ ap (λ t. take (r.end - r.start) t ++ places_at piece (moved first rs)) (dropped places first (r.start - first) ∙ ap (λ (n : ℕ). drop n places) d)
      ∙ ap (λ t. take (r.end - r.start) (drop r.start places) ++ t) (places_of_piece rs r.end (omega (arith, l, h.0, h.1)) h.4)
    where
      shorter : (xs : List At) (m n : ℕ) → m ≤ n → take m (take n xs) ≡ take m xs
      shorter xs zero n l = refl
      shorter [] (suc m) zero l = absurd (omega arith)
      shorter [] (suc m) (suc n) l = refl
      shorter (x ∷ xs) (suc m) zero l = absurd (omega arith)
      shorter (x ∷ xs) (suc m) (suc n) l = ap (λ t. x ∷ t) (shorter xs m n (omega (arith, l)))

      dropped : (xs : List At) (m n : ℕ) → drop n (drop m xs) ≡ drop (m + n) xs
      dropped xs zero n = let e : n ≡ zero + n = omega arith in ap (λ (k : ℕ). drop k xs) e
      dropped [] (suc m) zero = let e : suc m + zero ≡ suc m = omega arith in ap (λ (k : ℕ). drop {A = At} k []) (sym e)
      dropped [] (suc m) (suc n) = let e : suc m + suc n ≡ suc (m + suc n) = omega arith in ap (λ (k : ℕ). drop {A = At} k []) (sym e)
      dropped (x ∷ xs) (suc m) n = let e : suc m + n ≡ suc (m + n) = omega arith in dropped xs m n ∙ ap (λ (k : ℕ). drop k (x ∷ xs)) (sym e)

-- a piece from the number before the first range up to the end of the last reaches over them
piece_ranges : (places : List At) (rs : List Patch) → AreRanges 0 (length places) rs → AreRanges (first_needed rs) (first_needed rs + length (take (last_end rs - first_needed rs) (drop (first_needed rs) places))) rs
piece_ranges places [] h = tt
piece_ranges places (r ∷ rs) h =
    let a : last_end (r ∷ rs) ≤ length places = end_within (r ∷ rs) 0 (length places) h in
    let b : r.start ≤ last_end (r ∷ rs) = end_after (r ∷ rs) r.start (length places) (omega arith, h.1, h.2, h.3, h.4) r rs refl in
    let d : length (take (last_end (r ∷ rs) - (r.start - 1)) (drop (r.start - 1) places)) ≡ last_end (r ∷ rs) - (r.start - 1) = length-take-le (last_end (r ∷ rs) - (r.start - 1)) (drop (r.start - 1) places) (omega (arith, length-drop (r.start - 1) places, a)) in
    let e : last_end (r ∷ rs) ≡ (r.start - 1) + length (take (last_end (r ∷ rs) - (r.start - 1)) (drop (r.start - 1) places)) = omega (arith, d, b) in
    subst (λ (n : ℕ). AreRanges (r.start - 1) n (r ∷ rs)) e (ranges_end (r ∷ rs) (r.start - 1) (length places) (ranges_first (r ∷ rs) (length places) h))

pub lent_ranges : (places part : List At) (rs : List Patch) (first to : ℕ) → first ≡ first_needed rs → to ≡ last_end rs → part ≡ take (to - first) (drop first places) → AreRanges 0 (length places) rs → AreRanges first (first + length part) rs
lent_ranges places part rs first to a b e h =
    subst (λ (xs : List At). AreRanges first (first + length xs) rs) (sym e) (subst (λ (n : ℕ). AreRanges first (first + length (take (n - first) (drop first places))) rs) (sym b)
    (subst (λ (n : ℕ). AreRanges n (n + length (take (last_end rs - n) (drop n places))) rs) (sym a) (piece_ranges places rs h)))

module _ (places part : List At) (rs : List Patch) (first to : ℕ) (a : first ≡ first_needed rs) (b : to ≡ last_end rs) (e : part ≡ take (to - first) (drop first places)) (h : AreRanges 0 (length places) rs) where
  within : to ≤ length places
  within = omega (arith, b, end_within rs 0 (length places) h)

  lower : AreRanges first to rs
  lower = subst (λ (n : ℕ). AreRanges first n rs) (sym b) (subst (λ (n : ℕ). AreRanges n (last_end rs) rs) (sym a) (ranges_end rs (first_needed rs) (length places) (ranges_first rs (length places) h)))

  pub deletes_are : (deletes : List At) → deletes ≡ places_at part (moved first rs) → deletes ≡ places_at places rs
  deletes_are deletes d = d ∙ ap (λ (t : List At). places_at t (moved first rs)) e ∙ places_of_piece places first to within rs first (omega arith) lower

  pub runs_are : (runs : List Run) → runs ≡ runs_at part 0 (moved first rs) → runs ≡ runs_at places 0 rs
  runs_are runs d = d ∙ ap (λ (t : List At). runs_at t 0 (moved first rs)) e ∙ go rs a lower
    where
      go : (qs : List Patch) → first ≡ first_needed qs → AreRanges first to qs → runs_at (take (to - first) (drop first places)) 0 (moved first qs) ≡ runs_at places 0 qs
      go [] f l = refl
      go (q ∷ qs) f l = runs_of_piece places first to within (q ∷ qs) 0 q.start (omega (arith, f)) (omega arith, l.1, l.2, l.3, l.4)

-- the place behind which a range's text goes, by the number before it
pub place_behind : (places : List At) (n : ℕ) → (n ≡ 0 → ⊥) → place_before places n ≡ slice_get places (n - 1)
place_behind places zero ne = absurd (ne refl)
place_behind places (suc n) ne = let e : n ≡ suc n - 1 = omega arith in ap (slice_get places) e

-- one range over all places
pub whole_places : (places : List At) (first : ℕ) (rs : List Patch) (r : Patch) → length rs ≡ 1 → r ≡ get_or rs 0 r → r.start ≡ first → r.end ≡ first + length places → places_at places (moved first rs) ≡ places
whole_places places first [] r one is from to = absurd (omega (arith, one))
whole_places places first (q ∷ (p ∷ rs)) r one is from to = absurd (omega (arith, one))
whole_places places first (q ∷ []) r one is from to =
    let same : r ≡ q = is in
    let zero : q.start - first ≡ 0 = omega (arith, ap (λ (t : Patch). t.start) same, from) in
    let all : (q.end - first) - (q.start - first) ≡ length places = omega (arith, ap (λ (t : Patch). t.start) same, ap (λ (t : Patch). t.end) same, from, to) in
    append-nil (take ((q.end - first) - (q.start - first)) (drop (q.start - first) places))
    ∙ ap (λ (n : ℕ). take n (drop (q.start - first) places)) all
    ∙ ap (λ (n : ℕ). take (length places) (drop n places)) zero
    ∙ take_all (length places) places (omega arith)
