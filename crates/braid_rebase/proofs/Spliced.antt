-- What a version adds to the nodes that its parents see makes the splice of their text.
use Rattle.std.proofs.Common.{◌≡◌, ℕ, ◌<◌, ◌+◌, ◌-◌, List, [], ◌∷◌, Bool, true, false, not, refl, sym, ap, subst, ◌∙◌, inl, inr, arith, take, drop, map, filter, length, Option, Some, None, unwrap_or, IsSome, option_map, ◌++◌}
use Rattle.std.proofs.lemmas.List.{length-map}
use Rattle.std.specs.List.{AllByRecursion}
use Rattle.braid_change.specs.declared.patch.Patch.{Patch}
use Rattle.braid_change.specs.declared.change.Change.{Change}
use Rattle.braid_change.specs.Changes.{IsShaped}
use Rattle.braid_change.specs.Splices.{ranges, cut, spliced, AreRanges}
use Rattle.braid_change.proofs.Pieces.{shaped_ranges}
use Rattle.braid_tree.specs.Keys.{Key, key_cmp, key_in}
use Rattle.braid_tree.specs.Nodes.{Node, path_of, IsReading, with_nodes, run}
use Rattle.braid_tree.specs.Trees.{Member, IsWithout, AreDistinct, AreNewKeys}
use Rattle.braid_tree.proofs.Member.{all_member, all_from_members, member_append_cases}
use Rattle.braid_rebase.specs.Additions.{char_of, key_of, chars_of, ranges_at, has_key, nodes_at, deleted_at, seen_after, AreUnder}
use Rattle.braid_rebase.proofs.Filtered.{take_member}
use Rattle.braid_rebase.proofs.KeyTests.{key_member}
use Rattle.braid_rebase.proofs.Added.{run_member}
use Rattle.braid_rebase.proofs.Weave.{weave, woven, IsAhead, under_without}
use Rattle.braid_rebase.proofs.Splice.{Keeps, AllAnswer, woven_text, keeps, map_member, take_drop_in}

-- what a version deletes are keys of members
pub deleted_in : (rs : List Patch) (S : List (Node Key)) (k : Key) → Member k (deleted_at S rs) → (y : Node Key) × Member y S × (y.key ≡ k)
deleted_in [] S k m = absurd m
deleted_in (r ∷ rs) S k m = elim (member_append_cases k (map key_of (take (r.end - r.start) (drop r.start S))) (deleted_at S rs) m) [
  | inl a ↦ here (map_member k (take (r.end - r.start) (drop r.start S)) a)
  | inr b ↦ deleted_in rs S k b
]
  where
    here : (y : Node Key) × Member y (take (r.end - r.start) (drop r.start S)) × (y.key ≡ k) → (y : Node Key) × Member y S × (y.key ≡ k)
    here (y, n, e) = (y, take_member y (r.start + (r.end - r.start)) S (take_drop_in y r.start (r.end - r.start) S n), e)

-- the ranges of a change that has its shape, none where it has no splice
pub ranges_rise : (S : List (Node Key)) (c : Change) → IsShaped c → AreRanges 0 (length (chars_of S)) (ranges_at S c)
ranges_rise S c shaped = go (ranges (chars_of S) c) refl
  where
    go : (o : Option (List Patch)) → ranges (chars_of S) c ≡ o → AreRanges 0 (length (chars_of S)) (unwrap_or o [])
    go (Some rs) e = shaped_ranges (chars_of S) c rs shaped e
    go None e = tt

pub ranges_within : (S : List (Node Key)) (c : Change) → IsShaped c → AreRanges 0 (length S) (ranges_at S c)
ranges_within S c shaped = subst (λ (n : ℕ). AreRanges 0 n (ranges_at S c)) (length-map S char_of) (ranges_rise S c shaped)

-- a splice that there is, by its ranges
pub splice_cut : (S : List (Node Key)) (c : Change) → IsSome (spliced (chars_of S) c) → spliced (chars_of S) c ≡ Some (cut 0 (chars_of S) (ranges_at S c))
splice_cut S c h = go (ranges (chars_of S) c) h
  where
    go : (o : Option (List Patch)) → IsSome (option_map (cut 0 (chars_of S)) o) → option_map (cut 0 (chars_of S)) o ≡ Some (cut 0 (chars_of S) (unwrap_or o []))
    go (Some rs) h = refl
    go None h = cc

-- none of a new version's keys is on a path of a lower level
pub under_new : (level : ℕ) (id : List ℕ) (S : List (Node Key)) → AreUnder level S → AreNewKeys (key_in level id) 0 S
under_new level id S under m le = all_from_members (IsWithout (key_in level id m)) S (λ y n. under_without level id m y (all_member (λ (y : Node Key). AllByRecursion (λ (b : Key). b.level < level) (path_of y)) y S under n))

-- the key of a member is of a lower level
key_under : (level : ℕ) (S : List (Node Key)) → AreUnder level S → (y : Node Key) → Member y S → y.key.level < level
key_under level S under y m = go y.above (all_member (λ (y : Node Key). AllByRecursion (λ (b : Key). b.level < level) (path_of y)) y S under m)
  where
    go : (p : List Key) → AllByRecursion (λ (b : Key). b.level < level) (p ++ y.key ∷ []) → y.key.level < level
    go [] all = all.0
    go (b ∷ p) all = go p all.1

-- a version deletes none of its own
pub not_deleted : (level : ℕ) (S : List (Node Key)) (rs : List Patch) → AreUnder level S → (k : Key) → k.level ≡ level → has_key k (deleted_at S rs) ≡ false
not_deleted level S rs under k same = go (has_key k (deleted_at S rs)) refl
  where
    no : (y : Node Key) × Member y S × (y.key ≡ k) → ⊥
    no (y, n, e) = let a = key_under level S under y n in let b : y.key.level ≡ k.level = ap (λ (k : Key). k.level) e in omega (arith, a, b, same)

    go : (b : Bool) → has_key k (deleted_at S rs) ≡ b → b ≡ false
    go true e = absurd (no (deleted_in rs S k (key_member k (deleted_at S rs) e)))
    go false e = refl

module _ (level : ℕ) (id : List ℕ) (S : List (Node Key)) (c : Change) (read : IsReading key_cmp S) (distinct : AreDistinct S) (under : AreUnder level S) (shaped : IsShaped c) where
  rs : List Patch
  rs = ranges_at S c

  keep : Node Key → Bool
  keep z = not (has_key z.key (deleted_at S rs))

  -- the text is cut as the ranges say
  pub text_after : chars_of (seen_after level id S c) ≡ cut 0 (chars_of S) (ranges_at S c)
  unfolding rs keep
  text_after = ap (λ (W : List (Node Key)). map char_of (filter keep W)) woven_all ∙ woven_text level id S under keep kept_run rs (length S) 0 0 0 S (omega arith) (ranges_within S c shaped) keeps_S
    where
      woven_all : with_nodes key_cmp (nodes_at (key_in level id) S 0 rs) S ≡ weave level id S under 0 0 S rs
      woven_all = woven level id S under rs (length S) 0 0 0 [] [] S (ranges_within S c shaped) (omega arith) refl refl (omega arith) (first rs) read (under_new level id S under)
        where
          first : (qs : List Patch) → IsAhead level id S under [] [] 0 qs
          first [] = tt
          first (q ∷ qs) = inl (refl, refl)

      keeps_S : Keeps keep S 0 0 rs
      keeps_S = keeps rs (length S) 0 0 S (deleted_at S rs) distinct (omega arith) (ranges_within S c shaped) (λ x m. absurd m) (λ k m. inr m) (λ k m. m)

      kept_run : (above : List Key) (n : ℕ) (cs : List ℕ) → AllAnswer keep true (run (key_in level id) above n cs)
      kept_run above n cs z m = ap not (not_deleted level S rs under z.key (run_member level id cs above n (λ (b : Key). Unit {0}) (all_from_members (λ (b : Key). Unit {0}) above (λ b k. tt)) (λ k. tt) z m).1)

  -- and what was to be cut is spliced
  pub spliced_after : (t : List ℕ) → spliced (chars_of S) c ≡ Some t → chars_of (seen_after level id S c) ≡ t
  spliced_after t e = text_after ∙ let f = splice_cut S c (ap is_some_of e) in let g : Some (cut 0 (chars_of S) (ranges_at S c)) ≡ Some t = sym f ∙ e in cc
    where
      is_some_of : Option (List ℕ) → Bool
      is_some_of (Some x) = true
      is_some_of None = false
