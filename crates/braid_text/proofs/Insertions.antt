-- How many ranges insert text, and how the most runs of a history grow with an update.
use Rattle.std.proofs.Common.{◌≡◌, ℕ, ◌+◌, ◌*◌, ◌<◌, List, [], ◌∷◌, ◌++◌, Bool, true, false, ◌==◌, if◌then◌else◌, Some, None, IsSome, unwrap_or, length, take, get_or, refl, sym, ap, ◌∙◌, arith, length-append}
use Rattle.std.proofs.lemmas.List.{take_more, length-map}
use Rattle.std.proofs.lemmas.List.Sums.{sum_by-cons, sum_by-append}
use Rattle.braid_change.specs.declared.patch.Patch.{Patch}
use Rattle.braid_change.specs.declared.change.Change.{Change}
use Rattle.braid_change.specs.declared.change.Change.TheVariants.{Body, Patches}
use Rattle.braid_change.specs.Splices.{joined, ranges, all_within}
use Rattle.braid_change.specs.Updates.{UpdateView}
use Rattle.braid_tree.specs.declared.at.At.{At}
use Rattle.braid_tree.specs.Keys.{Key}
use Rattle.braid_tree.specs.Rows.{Row}
use Rattle.braid_rebase.specs.Resolved.{IsResolved, places_of, row_chars, row_ranges, place_before, runs_at}
use Rattle.braid_rebase.specs.declared.run.Run.{Run}
use Rattle.braid_rebase.specs.declared.resolving.Resolved.{Resolved}
use Rattle.braid_text.specs.Versions.{deletions_by}
use Rattle.braid_text.specs.Histories.{added_by, deletions_of}
use Rattle.braid_text.specs.Answers.{needs_of}
use Rattle.braid_text.specs.RunCounts.{text_count, patch_count, insertions_in, insertions_of, update_count, insertions_by, most_runs}
use Rattle.braid_text.specs.Puts.{run_count, insertions_at}
use Rattle.braid_text.proofs.Public.{deletions_more}

pub some_text : (text : List ℕ) → (length text == 0) ≡ false → text_count text ≡ 1
some_text [] e = cc
some_text (c ∷ text) e = refl

pub insertions_more : (runs : List Run) (i : ℕ) (r : Run) → i < length runs → r ≡ get_or runs i r → insertions_at (take (i + 1) runs) ≡ insertions_at (take i runs) + run_count r
insertions_more runs i r l is = ap insertions_at (take_more runs i r l) ∙ sum_by-append run_count (take i runs) (get_or runs i r ∷ []) ∙ ap (λ (n : ℕ). insertions_at (take i runs) + n) (one (get_or runs i r) ∙ ap run_count (sym is))
  where
    one : (q : Run) → insertions_at (q ∷ []) ≡ run_count q
    one q = let e = sum_by-cons run_count q [] in omega (arith, e)

-- the runs of ranges insert text where the ranges do
runs_insert : (places : List At) (n : ℕ) (rs : List Patch) → insertions_at (runs_at places n rs) ≡ insertions_in rs
runs_insert places n [] = refl
runs_insert places n (r ∷ rs) = sum_by-cons run_count (record { after = place_before places r.start; text = r.text; ordinal = n }) (runs_at places (n + length r.text) rs) ∙ ap (λ (m : ℕ). text_count r.text + m) (runs_insert places (n + length r.text) rs) ∙ sym (sum_by-cons patch_count r rs)

-- the ranges of a change insert text as often as the change does
ranges_insert : (t : List ℕ) (change : Change) → IsSome (ranges t change) → insertions_in (unwrap_or (ranges t change) []) ≡ insertions_of change
ranges_insert t (Body x) h = let e = sum_by-cons patch_count (record { start = 0; end = length t; text = x }) [] in omega (arith, e)
ranges_insert t (Patches ps) h = go (all_within (length t) (joined ps)) h
  where
    go : (b : Bool) → IsSome (if b then Some (joined ps) else None) → insertions_in (unwrap_or (if b then Some (joined ps) else None) []) ≡ insertions_in (joined ps)
    go true h = refl
    go false h = cc

pub insertions_resolved : (S : List Row) (change : Change) (resolved : Resolved) → IsResolved S change resolved → insertions_at resolved.runs.items ≡ insertions_of change
insertions_resolved S change resolved is = ap insertions_at is.runs ∙ runs_insert (places_of S) 0 (row_ranges S change) ∙ ranges_insert (row_chars S) change is.fits

-- an update adds two runs at most for each of its joined ranges that insert text and for each of its deletions
pub most_runs_more : (H : List UpdateView) (u : UpdateView) → most_runs (H ++ u ∷ []) ≡ most_runs H + 2 * (insertions_of u.change + (needs_of H u).deletions)
most_runs_more H u =
    let a : insertions_by (H ++ u ∷ []) ≡ insertions_by H + insertions_by (u ∷ []) = sum_by-append update_count H (u ∷ []) in
    let b : insertions_by (u ∷ []) ≡ insertions_of u.change + 0 = sum_by-cons update_count u [] in
    let d : length (deletions_of (H ++ u ∷ [])) ≡ length (deletions_of H) + length (deletions_by (added_by H u)) = ap length (deletions_more H u) ∙ length-append (deletions_of H) (deletions_by (added_by H u)) in
    let e : length (deletions_by (added_by H u)) ≡ (needs_of H u).deletions = length-map (added_by H u).deleted (λ (k : Key). record { key = k; by = u.id }) in
    omega (arith, a, b, d, e)
