-- What is read of a kept row is what contracts see of it.
use Rattle.std.proofs.Common.{◌≡◌, ℕ, ◌<◌, List, length, slice_get, get_or, Option, Some, None, IsSomeAnd, IfSome, refl, sym, ap, subst, ◌∙◌, arith, Less, Bool, true, false, All}
use Rattle.std.specs.Option.{option_map}
use Rattle.std.proofs.lemmas.List.{length-map}
use Rattle.std.proofs.lemmas.List.Elements.{All-get_or}
use Rattle.std.proofs.lemmas.Option.{slice_get-map, slice_get-get_or, slice_get_within}
use Rattle.braid_tree.specs.declared.at.At.{At}
use Rattle.braid_tree.specs.declared.row.PlainRow.{PlainRow}
use Rattle.braid_tree.specs.Keys.{key_cmp}
use Rattle.braid_tree.specs.Rows.{Row, Stamp, key_at}
use Rattle.braid_tree.specs.Seen.{is_same_place}
use Rattle.braid_tree.proofs.Links.{same_place_itself}
use Rattle.braid_tree.specs.Inside.{row_of, rows_in, IsPlaceOf, IsPassed, IsNotPassed}

pub row_at : (rows : List PlainRow) (i : ℕ) (d : PlainRow) → i < length rows → slice_get (rows_in rows) i ≡ Some (row_of (get_or rows i d))
row_at rows i d l = slice_get-map row_of rows i ∙ ap (option_map row_of) (slice_get-get_or rows i d l)

pub place_read : (rows : List PlainRow) (i : ℕ) (d : PlainRow) (at : At) → i < length rows → IsPlaceOf (rows_in rows) at i → (get_or rows i d).at ≡ at
place_read rows i d at l h = subst (λ (o : Option Row). IsSomeAnd o (λ (r : Row). r.at ≡ at)) (row_at rows i d l) h

pub place_is : (rows : List PlainRow) (i : ℕ) (d : PlainRow) (at : At) → i < length rows → (get_or rows i d).at ≡ at → IsPlaceOf (rows_in rows) at i
place_is rows i d at l h = subst (λ (o : Option Row). IsSomeAnd o (λ (r : Row). r.at ≡ at)) (sym (row_at rows i d l)) h

pub place_within : (rows : List PlainRow) (at : At) (i : ℕ) → IsPlaceOf (rows_in rows) at i → i < length rows
place_within rows at i h = go (slice_get (rows_in rows) i) refl h
  where
    go : (o : Option Row) → slice_get (rows_in rows) i ≡ o → IsSomeAnd o (λ (r : Row). r.at ≡ at) → i < length rows
    go None e h = absurd h
    go (Some r) e h = omega (arith, slice_get_within (rows_in rows) i r e, length-map rows row_of)

pub passed_is : (vs : List Stamp) (rows : List PlainRow) (i : ℕ) (d : PlainRow) (first : At) → i < length rows → key_cmp (key_at vs first) (key_at vs (get_or rows i d).at) ≡ Less → IsPassed vs (rows_in rows) first i
passed_is vs rows i d first l h = subst (λ (o : Option Row). IfSome o (λ (r : Row). key_cmp (key_at vs first) (key_at vs r.at) ≡ Less)) (sym (row_at rows i d l)) h

pub not_passed_is : (vs : List Stamp) (rows : List PlainRow) (i : ℕ) (d : PlainRow) (first : At) → i < length rows → (key_cmp (key_at vs first) (key_at vs (get_or rows i d).at) ≡ Less → ⊥) → IsNotPassed vs (rows_in rows) first i
not_passed_is vs rows i d first l h = subst (λ (o : Option Row). IfSome o (λ (r : Row). (key_cmp (key_at vs first) (key_at vs r.at) ≡ Less) → ⊥)) (sym (row_at rows i d l)) h

-- a fact of each row that contracts see, of what is read
pub read_all : (P : Row → Type 0) (rows : List PlainRow) (i : ℕ) (d : PlainRow) → i < length rows → All P (rows_in rows) → P (row_of (get_or rows i d))
read_all P rows i d l all =
    let m : i < length (rows_in rows) = omega (arith, l, length-map rows row_of) in
    let e : Some (get_or (rows_in rows) i (row_of d)) ≡ Some (row_of (get_or rows i d)) = sym (slice_get-get_or (rows_in rows) i (row_of d) m) ∙ row_at rows i d l in
    let f : get_or (rows_in rows) i (row_of d) ≡ row_of (get_or rows i d) = cc e in
    subst P f (All-get_or P (rows_in rows) i (row_of d) m all)

-- a test of two places that fails
pub other_place : (a b : At) (t : Bool) → t ≡ is_same_place a b → t ≡ false → a ≡ b → ⊥
other_place a b t h f e = let s : is_same_place a b ≡ true = subst (λ (x : At). is_same_place a x ≡ true) e (same_place_itself a) in cc
