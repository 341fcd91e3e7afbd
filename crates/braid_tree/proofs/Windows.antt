-- A piece of a list, taken one item at a time.
use Rattle.std.proofs.Common.{◌≡◌, ℕ, ◌-◌, ◌≤◌, ◌<◌, ◌+◌, List, [], ◌∷◌, ◌++◌, Bool, true, false, cond, length, map, get_or, take, drop, refl, sym, ap, ◌∙◌, arith, append_assoc, suc, zero}
use Rattle.std.proofs.lemmas.List.{drop_more}
use Rattle.braid_tree.specs.declared.at.At.{At}
use Rattle.braid_tree.specs.declared.row.PlainRow.{PlainRow}
use Rattle.braid_tree.specs.Rows.{RowDeletion}
use Rattle.braid_tree.specs.Seen.{is_seen_by, seen_rows, place_in}
use Rattle.braid_tree.specs.Inside.{row_of, rows_in}

-- the items from number `from` up to number `to`
abbrev pub window : {X : Type 0} → ℕ → ℕ → List X → List X
window from to xs = take (to - from) (drop from xs)

pub window_none : {X : Type 0} (a b : ℕ) (xs : List X) → b ≤ a → window a b xs ≡ []
window_none a b xs l = let e : b - a ≡ 0 = omega (arith, l) in ap (λ (n : ℕ). take n (drop a xs)) e

pub window_nil : {X : Type 0} (a b : ℕ) → window {X = X} a b [] ≡ []
window_nil {X = X} a b = ap (take (b - a)) (nothing a) ∙ short (b - a)
  where
    nothing : (n : ℕ) → drop {A = X} n [] ≡ []
    nothing zero = refl
    nothing (suc n) = refl

    short : (n : ℕ) → take {A = X} n [] ≡ []
    short zero = refl
    short (suc n) = refl

-- the next item is taken
pub window_take : {X : Type 0} (done : List X) (x : X) (xs : List X) (from to n : ℕ) → from ≤ n → n < to → (done ++ x ∷ []) ++ window (from - (n + 1)) (to - (n + 1)) xs ≡ done ++ window (from - n) (to - n) (x ∷ xs)
window_take {X = X} done x xs from to n l m =
    let a : from - n ≡ 0 = omega (arith, l) in
    let b : from - (n + 1) ≡ 0 = omega (arith, l) in
    let c : to - n ≡ suc (to - (n + 1)) = omega (arith, m) in
    append_assoc done (x ∷ []) (window (from - (n + 1)) (to - (n + 1)) xs)
    ∙ ap (λ (k : ℕ). done ++ x ∷ window k (to - (n + 1)) xs) b
    ∙ sym (ap (λ (k : ℕ). done ++ window k (to - n) (x ∷ xs)) a ∙ ap (λ (k : ℕ). done ++ take (k - 0) (x ∷ xs)) c ∙ ap (λ (k : ℕ). done ++ take k (x ∷ xs)) (all (to - (n + 1))) ∙ ap (λ (k : ℕ). done ++ x ∷ take k xs) (back (to - (n + 1))))
  where
    all : (k : ℕ) → suc k - 0 ≡ suc k
    all k = omega arith

    back : (k : ℕ) → k ≡ k - 0
    back k = omega arith

-- or passed
pub window_pass : {X : Type 0} (x : X) (xs : List X) (from to n : ℕ) → n < from → window (from - (n + 1)) (to - (n + 1)) xs ≡ window (from - n) (to - n) (x ∷ xs)
window_pass x xs from to n l =
    let a : from - n ≡ suc (from - (n + 1)) = omega (arith, l) in
    let c : (to - n) - suc (from - (n + 1)) ≡ (to - (n + 1)) - (from - (n + 1)) = omega (arith, l) in
    sym (ap (λ (k : ℕ). window k (to - n) (x ∷ xs)) a ∙ ap (λ (k : ℕ). take k (drop (from - (n + 1)) xs)) c)

-- the rows that are left, with the next one seen or not
module _ (marks : List Bool) (ds : List RowDeletion) (rows : List PlainRow) (i : ℕ) (d : PlainRow) (from to n : ℕ) (done whole : List At) (l : i < length rows) where
  abbrev row : PlainRow
  row = get_or rows i d

  abbrev left : ℕ → List At
  left k = map place_in (seen_rows marks ds (rows_in (drop k rows)))

  next : (b : Bool) → is_seen_by marks ds (row_of row) ≡ b → left i ≡ cond b (row.at ∷ left (i + 1)) (left (i + 1))
  next b e = ap (λ t. map place_in (seen_rows marks ds (rows_in t))) (drop_more rows i d l) ∙ go b e
    where
      go : (b : Bool) → is_seen_by marks ds (row_of row) ≡ b → map place_in (cond (is_seen_by marks ds (row_of row)) (row_of row ∷ seen_rows marks ds (rows_in (drop (i + 1) rows))) (seen_rows marks ds (rows_in (drop (i + 1) rows)))) ≡ cond b (row.at ∷ left (i + 1)) (left (i + 1))
      go true e = ap (λ (b : Bool). map place_in (cond b (row_of row ∷ seen_rows marks ds (rows_in (drop (i + 1) rows))) (seen_rows marks ds (rows_in (drop (i + 1) rows))))) e
      go false e = ap (λ (b : Bool). map place_in (cond b (row_of row ∷ seen_rows marks ds (rows_in (drop (i + 1) rows))) (seen_rows marks ds (rows_in (drop (i + 1) rows))))) e

  pub place_taken : (new : List At) → is_seen_by marks ds (row_of row) ≡ true → from ≤ n → n < to → new ≡ done ++ row.at ∷ []
      → done ++ window (from - n) (to - n) (left i) ≡ whole → new ++ window (from - (n + 1)) (to - (n + 1)) (left (i + 1)) ≡ whole
  place_taken new e a b made inv = ap (λ t. t ++ window (from - (n + 1)) (to - (n + 1)) (left (i + 1))) made ∙ window_take done row.at (left (i + 1)) from to n a b ∙ ap (λ t. done ++ window (from - n) (to - n) t) (sym (next true e)) ∙ inv

  pub place_passed : is_seen_by marks ds (row_of row) ≡ true → n < from → done ++ window (from - n) (to - n) (left i) ≡ whole → done ++ window (from - (n + 1)) (to - (n + 1)) (left (i + 1)) ≡ whole
  place_passed e a inv = ap (λ t. done ++ t) (window_pass row.at (left (i + 1)) from to n a) ∙ ap (λ t. done ++ window (from - n) (to - n) t) (sym (next true e)) ∙ inv

  pub place_hidden : is_seen_by marks ds (row_of row) ≡ false → done ++ window (from - n) (to - n) (left i) ≡ whole → done ++ window (from - n) (to - n) (left (i + 1)) ≡ whole
  place_hidden e inv = ap (λ t. done ++ window (from - n) (to - n) t) (sym (next false e)) ∙ inv
