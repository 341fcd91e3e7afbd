-- What marked versions see of runs, one run after the other.
use Rattle.std.proofs.Common.{◌≡◌, ℕ, zero, suc, ◌+◌, ◌-◌, ◌<◌, ◌≤◌, List, [], ◌∷◌, ◌++◌, Some, Bool, true, false, cond, length, take, drop, slice_get, get_or, min, refl, sym, ap, ◌∙◌, arith, append_assoc, inl, inr}
use Rattle.std.specs.List.{flat_map}
use Rattle.std.proofs.lemmas.Bool.{cases_Bool, cases_order}
use Rattle.std.proofs.lemmas.List.{drop_more}
use Rattle.braid_tree.specs.Rows.{place}
use Rattle.braid_tree.specs.declared.at.At.{At}
use Rattle.braid_spans.specs.declared.run.Run.{Run}
use Rattle.braid_spans.specs.Kept.{size_in}
use Rattle.braid_spans.specs.SeenRuns.{is_seen_run, seen_runs, places_from, places_in, seen_places, seen_count}
use Rattle.braid_spans.proofs.Lists.{sum_by-cons}

module _ (marks : List Bool) (chains : List (List ℕ)) (r : Run) (rs : List Run) where
  runs_take : is_seen_run marks chains r ≡ true → seen_runs marks chains (r ∷ rs) ≡ r ∷ seen_runs marks chains rs
  runs_take e = ap (λ b. cond b (r ∷ seen_runs marks chains rs) (seen_runs marks chains rs)) e

  runs_pass : is_seen_run marks chains r ≡ false → seen_runs marks chains (r ∷ rs) ≡ seen_runs marks chains rs
  runs_pass e = ap (λ b. cond b (r ∷ seen_runs marks chains rs) (seen_runs marks chains rs)) e

  pub count_take : is_seen_run marks chains r ≡ true → seen_count marks chains (r ∷ rs) ≡ r.len + seen_count marks chains rs
  count_take e = ap size_in (runs_take e) ∙ sum_by-cons (λ (x : Run). x.len) r (seen_runs marks chains rs)

  pub count_pass : is_seen_run marks chains r ≡ false → seen_count marks chains (r ∷ rs) ≡ seen_count marks chains rs
  count_pass e = ap size_in (runs_pass e)

  pub places_take : is_seen_run marks chains r ≡ true → seen_places marks chains (r ∷ rs) ≡ places_in r ++ seen_places marks chains rs
  places_take e = ap (flat_map places_in) (runs_take e)

  pub places_pass : is_seen_run marks chains r ≡ false → seen_places marks chains (r ∷ rs) ≡ seen_places marks chains rs
  places_pass e = ap (flat_map places_in) (runs_pass e)

pub count_within : (marks : List Bool) (chains : List (List ℕ)) (rs : List Run) → seen_count marks chains rs ≤ size_in rs
count_within marks chains [] = omega arith
count_within marks chains (r ∷ rs) =
    let s : size_in (r ∷ rs) ≡ r.len + size_in rs = sum_by-cons (λ (x : Run). x.len) r rs in
    let ih = count_within marks chains rs in
    elim (cases_Bool (is_seen_run marks chains r)) [
      | inl t ↦ (let c = count_take marks chains r rs t in omega (arith, s, ih, c))
      | inr f ↦ (let c = count_pass marks chains r rs f in omega (arith, s, ih, c))
    ]

pub places_length : (version n k : ℕ) → length (places_from version n k) ≡ k
places_length version n zero = refl
places_length version n (suc k) = ap suc (places_length version (n + 1) k)

pub places_get : (version n len k : ℕ) → k < len → slice_get (places_from version n len) k ≡ Some (place version (n + k))
places_get version n zero k l = absurd (omega (arith, l))
places_get version n (suc len) zero l = ap (λ m. Some (place version m)) more
  where
    more : n ≡ n + zero
    more = omega arith
places_get version n (suc len) (suc k) l = places_get version (n + 1) len k (omega (arith, l)) ∙ ap (λ m. Some (place version m)) more
  where
    more : n + 1 + k ≡ n + suc k
    more = omega arith

pub places_more : (version n k : ℕ) → places_from version n (k + 1) ≡ places_from version n k ++ place version (n + k) ∷ []
places_more version n zero = ap (λ m. place version m ∷ []) more
  where
    more : n ≡ n + zero
    more = omega arith
places_more version n (suc k) = ap (places_from version n) (λ i. up i) ∙ ap (λ t. place version n ∷ t) (places_more version (n + 1) k) ∙ ap (λ m. place version n ∷ (places_from version (n + 1) k ++ place version m ∷ [])) more
  where
    up : suc k + 1 ≡ suc (k + 1)
    up = omega arith

    more : n + 1 + k ≡ n + suc k
    more = omega arith

pub drop_places : (version n len s : ℕ) → drop s (places_from version n len) ≡ places_from version (n + s) (len - s)
drop_places version n len zero = ap (λ m. places_from version m len) up ∙ ap (places_from version (n + 0)) less
  where
    up : n ≡ n + 0
    up = omega arith

    less : len ≡ len - 0
    less = omega arith
drop_places version n zero (suc s) = ap (places_from version (n + suc s)) none
  where
    none : 0 ≡ 0 - suc s
    none = omega arith
drop_places version n (suc len) (suc s) = drop_places version (n + 1) len s ∙ ap (λ m. places_from version m (len - s)) up ∙ ap (places_from version (n + suc s)) less
  where
    up : n + 1 + s ≡ n + suc s
    up = omega arith

    less : len - s ≡ suc len - suc s
    less = omega arith

pub take_places : (version n len t : ℕ) → take t (places_from version n len) ≡ places_from version n (min t len)
take_places version n len zero = ap (places_from version n) none
  where
    none : 0 ≡ min 0 len
    none = omega arith
take_places version n zero (suc t) = ap (places_from version n) none
  where
    none : 0 ≡ min (suc t) 0
    none = omega arith
take_places version n (suc len) (suc t) = ap (λ x. place version n ∷ x) (take_places version (n + 1) len t) ∙ ap (places_from version n) up
  where
    up : suc (min t len) ≡ min (suc t) (suc len)
    up = omega arith

-- a piece of a run's places
pub piece_places : (version n len s t from to : ℕ) → from ≡ min s len → to ≡ from + min t (len - from) → take t (drop s (places_from version n len)) ≡ places_from version (n + from) (to - from)
piece_places version n len s t from to e f =
    ap (take t) (drop_places version n len s)
    ∙ take_places version (n + s) (len - s) t
    ∙ elim (cases_order s len) [
      | inl same ↦ (let a : min t (len - s) ≡ 0 = omega (arith, same) in let b : 0 ≡ to - from = omega (arith, same, e, f) in
          ap (places_from version (n + s)) a ∙ ap (places_from version (n + from)) b)
      | inr (inl l) ↦ (let a : n + s ≡ n + from = omega (arith, l, e) in let b : min t (len - s) ≡ to - from = omega (arith, l, e, f) in
          ap (λ m. places_from version m (min t (len - s))) a ∙ ap (places_from version (n + from)) b)
      | inr (inr g) ↦ (let a : min t (len - s) ≡ 0 = omega (arith, g) in let b : 0 ≡ to - from = omega (arith, g, e, f) in
          ap (places_from version (n + s)) a ∙ ap (places_from version (n + from)) b)
    ]

drop_none : {X : Type 0} (s : ℕ) → drop {A = X} s [] ≡ []
drop_none zero = refl
drop_none (suc s) = refl

take_none : {X : Type 0} (t : ℕ) → take {A = X} t [] ≡ []
take_none zero = refl
take_none (suc t) = refl

take_both : {X : Type 0} (xs ys : List X) (t : ℕ) → take t (xs ++ ys) ≡ take t xs ++ take (t - length xs) ys
take_both [] ys t = ap (λ m. take m ys) less ∙ ap (λ z. z ++ take (t - 0) ys) (sym (take_none t))
  where
    less : t ≡ t - 0
    less = omega arith
take_both (x ∷ xs) ys zero = ap (λ m. take m ys) none
  where
    none : 0 ≡ 0 - length (x ∷ xs)
    none = omega arith
take_both (x ∷ xs) ys (suc t) = ap (λ z. x ∷ z) (take_both xs ys t) ∙ ap (λ m. x ∷ (take t xs ++ take m ys)) less
  where
    less : t - length xs ≡ suc t - length (x ∷ xs)
    less = omega arith

-- a piece of two lists together
pub piece_both : {X : Type 0} (xs ys : List X) (s t : ℕ) → take t (drop s (xs ++ ys)) ≡ take t (drop s xs) ++ take (t - (length xs - s)) (drop (s - length xs) ys)
piece_both [] ys s t =
    ap (λ m. take t (drop m ys)) one ∙ ap (λ m. take m (drop (s - 0) ys)) two
    ∙ ap (λ z. z ++ take (t - (0 - s)) (drop (s - 0) ys)) (sym (ap (take t) (drop_none s) ∙ take_none t))
  where
    one : s ≡ s - 0
    one = omega arith

    two : t ≡ t - (0 - s)
    two = omega arith
piece_both (x ∷ xs) ys zero t = take_both (x ∷ xs) ys t ∙ ap (λ m. take t (x ∷ xs) ++ take m ys) one ∙ ap (λ m. take t (x ∷ xs) ++ take (t - (length (x ∷ xs) - 0)) (drop m ys)) two
  where
    one : t - length (x ∷ xs) ≡ t - (length (x ∷ xs) - 0)
    one = omega arith

    two : 0 ≡ 0 - length (x ∷ xs)
    two = omega arith
piece_both (x ∷ xs) ys (suc s) t = piece_both xs ys s t ∙ ap (λ m. take t (drop s xs) ++ take m (drop (s - length xs) ys)) one ∙ ap (λ m. take t (drop s xs) ++ take (t - (length (x ∷ xs) - suc s)) (drop m ys)) two
  where
    one : t - (length xs - s) ≡ t - (length (x ∷ xs) - suc s)
    one = omega arith

    two : s - length xs ≡ suc s - length (x ∷ xs)
    two = omega arith

-- an item of two lists together
pub get_left : {X : Type 0} (xs ys : List X) (n : ℕ) → n < length xs → slice_get (xs ++ ys) n ≡ slice_get xs n
get_left [] ys n l = absurd (omega (arith, l))
get_left (x ∷ xs) ys zero l = refl
get_left (x ∷ xs) ys (suc n) l = get_left xs ys n (omega (arith, l))

pub get_right : {X : Type 0} (xs ys : List X) (n : ℕ) → length xs ≤ n → slice_get (xs ++ ys) n ≡ slice_get ys (n - length xs)
get_right [] ys n l = ap (slice_get ys) less
  where
    less : n ≡ n - 0
    less = omega arith
get_right (x ∷ xs) ys zero l = absurd (omega (arith, l))
get_right (x ∷ xs) ys (suc n) l = get_right xs ys n (omega (arith, l)) ∙ ap (slice_get ys) less
  where
    less : n - length xs ≡ suc n - length (x ∷ xs)
    less = omega arith

-- the steps of a loop over runs
module _ (marks : List Bool) (chains : List (List ℕ)) (rs : List Run) (i : ℕ) (none : Run) (within : i < length rs) where
  head : drop i rs ≡ get_or rs i none ∷ drop (i + 1) rs
  head = drop_more rs i none within

  pub count_on : is_seen_run marks chains (get_or rs i none) ≡ true → seen_count marks chains (drop i rs) ≡ (get_or rs i none).len + seen_count marks chains (drop (i + 1) rs)
  count_on e = ap (seen_count marks chains) head ∙ count_take marks chains (get_or rs i none) (drop (i + 1) rs) e

  pub count_off : is_seen_run marks chains (get_or rs i none) ≡ false → seen_count marks chains (drop i rs) ≡ seen_count marks chains (drop (i + 1) rs)
  count_off e = ap (seen_count marks chains) head ∙ count_pass marks chains (get_or rs i none) (drop (i + 1) rs) e

  pub places_on : is_seen_run marks chains (get_or rs i none) ≡ true → seen_places marks chains (drop i rs) ≡ places_in (get_or rs i none) ++ seen_places marks chains (drop (i + 1) rs)
  places_on e = ap (seen_places marks chains) head ∙ places_take marks chains (get_or rs i none) (drop (i + 1) rs) e

  pub places_off : is_seen_run marks chains (get_or rs i none) ≡ false → seen_places marks chains (drop i rs) ≡ seen_places marks chains (drop (i + 1) rs)
  places_off e = ap (seen_places marks chains) head ∙ places_pass marks chains (get_or rs i none) (drop (i + 1) rs) e

  -- an element of the run at hand, or of those behind it
  pub get_here : (n : ℕ) → is_seen_run marks chains (get_or rs i none) ≡ true → n < (get_or rs i none).len
      → slice_get (seen_places marks chains (drop i rs)) n ≡ Some (place (get_or rs i none).first.version ((get_or rs i none).first.ordinal + n))
  get_here n e l =
      let k = places_length (get_or rs i none).first.version (get_or rs i none).first.ordinal (get_or rs i none).len in
      ap (λ t. slice_get t n) (places_on e)
      ∙ get_left (places_in (get_or rs i none)) (seen_places marks chains (drop (i + 1) rs)) n (omega (arith, l, k))
      ∙ places_get (get_or rs i none).first.version (get_or rs i none).first.ordinal (get_or rs i none).len n l

  pub get_behind : (n : ℕ) → is_seen_run marks chains (get_or rs i none) ≡ true → (get_or rs i none).len ≤ n
      → slice_get (seen_places marks chains (drop (i + 1) rs)) (n - (get_or rs i none).len) ≡ slice_get (seen_places marks chains (drop i rs)) n
  get_behind n e l =
      let k = places_length (get_or rs i none).first.version (get_or rs i none).first.ordinal (get_or rs i none).len in
      sym (ap (λ t. slice_get t n) (places_on e)
      ∙ get_right (places_in (get_or rs i none)) (seen_places marks chains (drop (i + 1) rs)) n (omega (arith, l, k))
      ∙ ap (λ m. slice_get (seen_places marks chains (drop (i + 1) rs)) (n - m)) k)

  -- a piece of the places from the run at hand on
  pub piece_on : (s t : ℕ) → is_seen_run marks chains (get_or rs i none) ≡ true
      → take t (drop s (seen_places marks chains (drop i rs)))
      ≡ take t (drop s (places_from (get_or rs i none).first.version (get_or rs i none).first.ordinal (get_or rs i none).len))
      ++ take (t - ((get_or rs i none).len - s)) (drop (s - (get_or rs i none).len) (seen_places marks chains (drop (i + 1) rs)))
  piece_on s t e =
      let k = places_length (get_or rs i none).first.version (get_or rs i none).first.ordinal (get_or rs i none).len in
      ap (λ z. take t (drop s z)) (places_on e)
      ∙ piece_both (places_in (get_or rs i none)) (seen_places marks chains (drop (i + 1) rs)) s t
      ∙ ap (λ m. take t (drop s (places_in (get_or rs i none))) ++ take (t - (m - s)) (drop (s - m) (seen_places marks chains (drop (i + 1) rs)))) k

-- one more place of a run's piece
pub place_pushed : (start now new : List At) (p : At) (version n from k : ℕ) → from ≤ k → new ≡ now ++ p ∷ [] → p ≡ place version (n + k) → now ≡ start ++ places_from version (n + from) (k - from)
    → new ≡ start ++ places_from version (n + from) (k + 1 - from)
place_pushed start now new p version n from k l made is done =
    made ∙ ap (λ t. t ++ p ∷ []) done ∙ append_assoc start (places_from version (n + from) (k - from)) (p ∷ [])
    ∙ ap (λ q. start ++ (places_from version (n + from) (k - from) ++ q ∷ [])) (is ∙ ap (place version) sum)
    ∙ ap (λ t. start ++ t) (sym (places_more version (n + from) (k - from)) ∙ ap (places_from version (n + from)) less)
  where
    sum : n + k ≡ n + from + (k - from)
    sum = omega arith

    less : k - from + 1 ≡ k + 1 - from
    less = omega arith
