-- One more row of a run, the turn of the end of the rows, and what contracts see of it.
use Rattle.std.proofs.Common.{◌≡◌, ℕ, ◌+◌, ◌≤◌, ◌<◌, List, [], ◌∷◌, ◌++◌, length, take, drop, map, get_or, Option, Some, None, refl, sym, ap, ◌∙◌, arith, append_assoc}
use Rattle.std.proofs.lemmas.List.{drop_more, map-append, take-map, drop-map, length-map}
use Rattle.braid_tree.specs.declared.at.At.{At}
use Rattle.braid_tree.specs.declared.row.PlainRow.{PlainRow}
use Rattle.braid_tree.specs.Rows.{run_rows, place, PutsRun}
use Rattle.braid_tree.specs.Inside.{row_of, rows_in, new_rows}

pub put_more : (at : At) (origin : Option At) (rows new : List PlainRow) (text : List ℕ) (i c : ℕ) → i < length text → c ≡ get_or text i c
    → new ≡ rows ++ record { at = at; character = c; origin = origin; newest = None } ∷ []
    → new ++ new_rows at.version (Some at) (at.ordinal + 1) (drop (i + 1) text) ≡ rows ++ new_rows at.version origin at.ordinal (drop i text)
put_more at origin rows new text i c lt is made =
    ap (λ t. t ++ rest) made
    ∙ append_assoc rows (row ∷ []) rest
    ∙ ap (λ t. rows ++ new_rows at.version origin at.ordinal t) (sym (drop_more text i c lt ∙ ap (λ (d : ℕ). d ∷ drop (i + 1) text) (sym is)))
  where
    row : PlainRow
    row = record { at = at; character = c; origin = origin; newest = None }

    rest : List PlainRow
    rest = new_rows at.version (Some at) (at.ordinal + 1) (drop (i + 1) text)

-- contracts see the rows of a run
new_rows_seen : (version : ℕ) (origin : Option At) (n : ℕ) (cs : List ℕ) → rows_in (new_rows version origin n cs) ≡ run_rows version origin n cs
new_rows_seen version origin n [] = refl
new_rows_seen version origin n (c ∷ cs) = ap (λ t. record { at = place version n; char = c; origin = origin } ∷ t) (new_rows_seen version (Some (place version n)) (n + 1) cs)

pub put_seen : (rows new : List PlainRow) (version : ℕ) (after : Option At) (n : ℕ) (cs : List ℕ) (p : ℕ) → new ≡ take p rows ++ (new_rows version after n cs ++ drop p rows)
    → rows_in new ≡ take p (rows_in rows) ++ (run_rows version after n cs ++ drop p (rows_in rows))
put_seen rows new version after n cs p e =
    ap rows_in e
    ∙ map-append row_of (take p rows) (new_rows version after n cs ++ drop p rows)
    ∙ ap (λ t. map row_of (take p rows) ++ t) (map-append row_of (new_rows version after n cs) (drop p rows))
    ∙ ap (λ t. map row_of (take p rows) ++ (t ++ map row_of (drop p rows))) (new_rows_seen version after n cs)
    ∙ ap (λ t. t ++ (run_rows version after n cs ++ map row_of (drop p rows))) (sym (take-map row_of p rows))
    ∙ ap (λ t. take p (map row_of rows) ++ (run_rows version after n cs ++ t)) (sym (drop-map row_of p rows))

pub puts_run : (rows new : List PlainRow) (version : ℕ) (after : Option At) (n : ℕ) (cs : List ℕ) (p : ℕ) → p ≤ length rows → new ≡ take p rows ++ (new_rows version after n cs ++ drop p rows)
    → PutsRun (rows_in rows) (rows_in new) version after n cs
puts_run rows new version after n cs p l e = (p, omega (arith, l, length-map rows row_of), put_seen rows new version after n cs p e)
