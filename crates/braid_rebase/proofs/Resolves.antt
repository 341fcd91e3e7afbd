-- An update is resolved to what the definitions say of the rows that its parents see, and these are one list.
use Rattle.std.proofs.Common.{◌≡◌, ℕ, ◌-◌, ◌+◌, List, [], Option, Some, IsSome, length, take, drop, unwrap_or, refl, sym, ap, subst, ◌∙◌}
use Rattle.std.proofs.lemmas.List.{length-map}
use Rattle.braid_change.specs.declared.patch.Patch.{Patch}
use Rattle.braid_change.specs.declared.change.Change.{Change}
use Rattle.braid_change.specs.Changes.{IsShaped}
use Rattle.braid_change.specs.Splices.{ranges, AreRanges}
use Rattle.braid_change.proofs.Pieces.{shaped_ranges}
use Rattle.braid_tree.specs.declared.at.At.{At}
use Rattle.braid_tree.specs.Rows.{Row}
use Rattle.braid_tree.specs.Seen.{place_in, char_in}
use Rattle.braid_rebase.specs.declared.resolving.Resolved.{Resolved}
use Rattle.braid_rebase.specs.Pieces.{moved, first_needed, last_end}
use Rattle.braid_rebase.specs.Resolved.{places_of, row_chars, row_ranges, runs_at, places_at, IsResolved}
use Rattle.braid_rebase.proofs.RunLists.{lent_ranges, deletes_are, runs_are}

-- the ranges of a change in rows are ranges of their places
pub row_within : (S : List Row) (change : Change) (rs : List Patch) → IsShaped change → ranges (row_chars S) change ≡ Some rs → AreRanges 0 (length (places_of S)) rs
row_within S change rs shaped e = subst (λ (n : ℕ). AreRanges 0 n rs) (length-map S char_in ∙ sym (length-map S place_in)) (shaped_ranges (row_chars S) change rs shaped e)

-- the piece of places that reaches over the ranges, lent under other names
pub piece_lent : (S : List Row) (change : Change) (list lent : List Patch) (part items : List At) (first to : ℕ) → IsShaped change → ranges (row_chars S) change ≡ Some list → lent ≡ list → first ≡ first_needed lent → to ≡ last_end lent
    → items ≡ take (to - first) (drop first (places_of S)) → part ≡ items → AreRanges first (first + length part) list
piece_lent S change list lent part items first to shaped e l a b p q = lent_ranges (places_of S) part list first to (a ∙ ap first_needed l) (b ∙ ap last_end l) (q ∙ p) (row_within S change list shaped e)

pub is_resolved : (S : List Row) (change : Change) (rs : List Patch) (part : List At) (first to : ℕ) (resolved : Resolved) → IsShaped change → ranges (row_chars S) change ≡ Some rs
    → first ≡ first_needed rs → to ≡ last_end rs → part ≡ take (to - first) (drop first (places_of S))
    → resolved.deletes.items ≡ places_at part (moved first rs) → resolved.runs.items ≡ runs_at part 0 (moved first rs) → IsResolved S change resolved
is_resolved S change rs part first to resolved shaped e a b p d r =
    let h : AreRanges 0 (length (places_of S)) rs = row_within S change rs shaped e in
    let same : rs ≡ row_ranges S change = sym (ap (λ (o : Option (List Patch)). unwrap_or o []) e) in
    record {
      fits = subst (λ (o : Option (List Patch)). IsSome o) (sym e) refl;
      runs = runs_are (places_of S) part rs first to a b p h resolved.runs.items r ∙ ap (runs_at (places_of S) 0) same;
      deletes = deletes_are (places_of S) part rs first to a b p h resolved.deletes.items d ∙ ap (places_at (places_of S)) same;
    }
