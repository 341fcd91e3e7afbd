-- Where all places are there that joined patches reach over, the patches are ranges.
use Rattle.std.proofs.Common.{◌≡◌, ℕ, ◌-◌, ◌+◌, ◌≤◌, nat_le, List, [], ◌∷◌, Bool, true, false, ◌&&◌, cond, Some, None, length, take, drop, replicate, refl, sym, ap, ◌∙◌, arith}
use Rattle.std.proofs.lemmas.Bool.Decides.{nat_tests}
use Rattle.std.proofs.lemmas.List.{length-map, length-take, length-drop, length-replicate}
use Rattle.braid_change.specs.declared.patch.Patch.{Patch}
use Rattle.braid_change.specs.declared.change.Change.TheVariants.{Patches}
use Rattle.braid_change.specs.Changes.{IsShaped}
use Rattle.braid_change.specs.Splices.{joined, all_within, ranges, AreRanges}
use Rattle.braid_change.proofs.Pieces.{shaped_ranges}
use Rattle.braid_tree.specs.Rows.{Row}
use Rattle.braid_tree.specs.Seen.{place_in, char_in}
use Rattle.braid_tree.specs.declared.at.At.{At}
use Rattle.braid_rebase.specs.Pieces.{first_needed, last_end}
use Rattle.braid_rebase.specs.Resolved.{places_of, row_chars}
use Rattle.braid_rebase.proofs.RunLists.{ranges_end}

both_true : (a b : Bool) → a ≡ true → b ≡ true → (a && b) ≡ true
both_true true b x y = y
both_true false b x y = cc

left_true : (a b : Bool) → (a && b) ≡ true → a ≡ true
left_true true b h = refl
left_true false b h = h

right_true : (a b : Bool) → (a && b) ≡ true → b ≡ true
right_true true b h = h
right_true false b h = cc

within_test : (a b : ℕ) → a ≤ b → nat_le a b ≡ true
within_test a b l = grind (arith, nat_tests)

test_more : (e a b : ℕ) → a ≤ b → nat_le e a ≡ true → nat_le e b ≡ true
test_more e a b l h = grind (arith, nat_tests)

within_more : (a b : ℕ) (rs : List Patch) → a ≤ b → all_within a rs ≡ true → all_within b rs ≡ true
within_more a b [] l h = refl
within_more a b (r ∷ rs) l h = both_true (nat_le r.end b) (all_within b rs) (test_more r.end a b l (left_true (nat_le r.end a) (all_within a rs) h)) (within_more a b rs l (right_true (nat_le r.end a) (all_within a rs) h))

-- ranges are within all that their own length is within
ranges_within : (rs : List Patch) (low len m : ℕ) → len ≤ m → AreRanges low len rs → all_within m rs ≡ true
ranges_within [] low len m l h = refl
ranges_within (r ∷ rs) low len m l h = both_true (nat_le r.end m) (all_within m rs) (within_test r.end m (omega (arith, h.2))) (ranges_within rs r.end len m l h.4)

-- a length that all patches are within
abbrev ends : List Patch → ℕ
ends [] = 0
ends (r ∷ rs) = r.end + ends rs

ends_within : (rs : List Patch) → all_within (ends rs) rs ≡ true
ends_within [] = refl
ends_within (r ∷ rs) = both_true (nat_le r.end (r.end + ends rs)) (all_within (r.end + ends rs) rs) (within_test r.end (r.end + ends rs) (omega arith)) (within_more (ends rs) (r.end + ends rs) rs (omega arith) (ends_within rs))

-- joined patches rise and do not overlap, up to the end of the last
joined_rise : (ps : List Patch) → IsShaped (Patches ps) → AreRanges 0 (last_end (joined ps)) (joined ps)
joined_rise ps shaped = ranges_end (joined ps) 0 (length blank) (shaped_ranges blank (Patches ps) (joined ps) shaped (ap (λ (b : Bool). cond b (Some (joined ps)) None) (ap (λ (n : ℕ). all_within n (joined ps)) (length-replicate (ends (joined ps)) 0) ∙ ends_within (joined ps))))
  where
    blank : List ℕ
    blank = replicate (ends (joined ps)) 0

-- a piece that is as long as ranges want it reaches no further than the list
end_there : (places items : List At) (rs : List Patch) (first to : ℕ) → AreRanges 0 (last_end rs) rs → first ≡ first_needed rs → to ≡ last_end rs → items ≡ take (to - first) (drop first places) → first + length items ≡ to → to ≤ length places
end_there places items [] first to h a b p e = omega (arith, b)
end_there places items (r ∷ rs) first to h a b p e =
    omega (arith, a, b, h.1, h.2, e, ap length p, length-take (to - first) (drop first places), length-drop first places)

pub found_at_once : (S : List Row) (ps list : List Patch) (items : List At) (first to : ℕ) → IsShaped (Patches ps) → list ≡ joined ps → first ≡ first_needed list → to ≡ last_end list → items ≡ take (to - first) (drop first (places_of S)) → first + length items ≡ to
    → ranges (row_chars S) (Patches ps) ≡ Some list
found_at_once S ps list items first to shaped same a b p e =
    let rise = joined_rise ps shaped in
    let l : last_end (joined ps) ≤ length (row_chars S) = omega (arith, end_there (places_of S) items (joined ps) first to rise (a ∙ ap first_needed same) (b ∙ ap last_end same) p e, b, ap last_end same, length-map S place_in, length-map S char_in) in
    ap (λ (t : Bool). cond t (Some (joined ps)) None) (ranges_within (joined ps) 0 (last_end (joined ps)) (length (row_chars S)) l rise) ∙ ap Some (sym same)
