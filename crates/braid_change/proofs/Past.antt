-- The first joined patch past the end of a text is found without joining the patches.
use Rattle.std.proofs.Common.{◌≡◌, ◌==◌, ℕ, ◌+◌, ◌<◌, ◌≤◌, List, [], ◌∷◌, ◌++◌, suc, Bool, true, false, cond, nat_lt, nat_le, ◌&&◌, Option, Some, None, refl, sym, ap, ◌∙◌, arith, drop, length, get_or, slice_get}
use Rattle.std.proofs.Math.Seq.{drop-cons}
use Rattle.std.proofs.lemmas.Bool.Decides.{nat_tests}
use Rattle.std.specs.List.{position_from}
use Rattle.braid_change.specs.Changes.{AreListed}
use Rattle.braid_change.specs.Splices.{join, joined, is_past, all_within}
use Rattle.braid_change.proofs.Runs.{Opens, opens, join_other, tells_same}
use Rattle.braid_change.specs.declared.patch.Patch.{Patch}

-- the number of a patch's joined patch, where the patch before it has start s and number n
abbrev pub number : ℕ → ℕ → Patch → ℕ
number n s p = cond (p.start == s) n (n + 1)

-- the number of the joined patch of the first patch past the end
abbrev pub walk : ℕ → ℕ → ℕ → List Patch → Option ℕ
walk len n s [] = None
walk len n s (p ∷ ps) = cond (is_past len p) (Some (number n s p)) (walk len (number n s p) p.start ps)

-- where one patch is past the end, so is the next
past_rises : (len : ℕ) (p q : Patch) → p.end ≤ q.start → q.start ≤ q.end → is_past len p ≡ true → is_past len q ≡ true
past_rises len p q a b h = grind (arith, nat_tests)

same_test : (a b : ℕ) (c : Bool) → a == b ≡ c → b == a ≡ c
same_test a b true h = grind (arith, nat_tests)
same_test a b false h = grind (arith, nat_tests)

join_equal : (p : Patch) (rs : List Patch) (s len k : ℕ) → Opens s rs → p.start == s ≡ true → position_from (is_past len) k (join p rs) ≡ position_from (is_past len) k rs
join_equal p rs s len k o e = ap (λ z. position_from (is_past len) k (join p z)) o.is ∙ ap (λ b. position_from (is_past len) k (cond b (record { start = p.start; end = o.first.end; text = p.text ++ o.first.text } ∷ o.others) (p ∷ o.first ∷ o.others))) (ap (λ n. p.start == n) o.start ∙ e)
    ∙ ap (position_from (is_past len) k) (sym o.is)

pub walks : (ps : List Patch) (low len k : ℕ) (p : Patch) → AreListed low (p ∷ ps) → position_from (is_past len) k (joined (p ∷ ps)) ≡ cond (is_past len p) (Some k) (walk len k p.start ps)
walks [] low len k p h = refl
walks (q ∷ qs) low len k p h = go (p.start == q.start) refl (walks qs p.end len k q h.2) (walks qs p.end len (k + 1) q h.2)
  where
    rest : ℕ → Option ℕ
    rest n = cond (is_past len q) (Some n) (walk len n q.start qs)

    go : (b : Bool) → p.start == q.start ≡ b → position_from (is_past len) k (joined (q ∷ qs)) ≡ rest k → position_from (is_past len) (k + 1) (joined (q ∷ qs)) ≡ rest (k + 1)
        → position_from (is_past len) k (join p (joined (q ∷ qs))) ≡ cond (is_past len p) (Some k) (walk len k p.start (q ∷ qs))
    go true e here next = join_equal p (joined (q ∷ qs)) q.start len k (opens q qs) e ∙ here ∙ by (is_past len p) refl ∙ ap (λ b. cond (is_past len p) (Some k) (rest (cond b k (k + 1)))) (sym (same_test p.start q.start true e))
      where
        by : (c : Bool) → is_past len p ≡ c → rest k ≡ cond c (Some k) (rest k)
        by true past = ap (λ d. cond d (Some k) (walk len k q.start qs)) (past_rises len p q h.2.0 h.2.1 past)
        by false past = refl
    go false e here next = ap (position_from (is_past len) k) (join_other p (joined (q ∷ qs)) q.start (opens q qs) e) ∙ ap (λ z. cond (is_past len p) (Some k) z) next
        ∙ ap (λ b. cond (is_past len p) (Some k) (rest (cond b k (k + 1)))) (sym (same_test p.start q.start false e))

-- the walk begins at the first patch
pub walk_first : (len : ℕ) (p : Patch) (ps : List Patch) → AreListed 0 (p ∷ ps) → walk len 0 p.start (p ∷ ps) ≡ position_from (is_past len) 0 (joined (p ∷ ps))
walk_first len p ps h = ap (λ b. cond (is_past len p) (Some (cond b 0 1)) (walk len (cond b 0 1) p.start ps)) (tells_same p.start p.start refl) ∙ sym (walks ps 0 len 0 p h)

-- what is left of a list begins with the item at hand
pub drop_next : {X : Type 0} (xs : List X) (n : ℕ) (x : X) → n < length xs → x ≡ get_or xs n x → drop n xs ≡ x ∷ drop (n + 1) xs
drop_next xs n x l e = let one : suc n ≡ n + 1 = omega arith in drop-cons xs n x l ∙ ap (λ z. z ∷ drop (suc n) xs) (sym e) ∙ ap (λ (k : ℕ). x ∷ drop k xs) one

-- no patch is past the end: each is within
pub none_past : (len k : ℕ) (rs : List Patch) → position_from (is_past len) k rs ≡ None → all_within len rs ≡ true
none_past len k [] h = refl
none_past len k (r ∷ rs) h = go (is_past len r) refl h (λ e. none_past len (k + 1) rs e)
  where
    go : (b : Bool) → is_past len r ≡ b → cond b (Some k) (position_from (is_past len) (k + 1) rs) ≡ None → (position_from (is_past len) (k + 1) rs ≡ None → all_within len rs ≡ true) → all_within len (r ∷ rs) ≡ true
    go true e h deep = cc
    go false e h deep = both (within len r.end e) (deep h)
      where
        within : (a b : ℕ) → nat_lt a b ≡ false → nat_le b a ≡ true
        within a b e = grind (arith, nat_tests)

        both : nat_le r.end len ≡ true → all_within len rs ≡ true → all_within len (r ∷ rs) ≡ true
        both a b = rw (a, b) refl

pub some_past : (len k n : ℕ) (rs : List Patch) → position_from (is_past len) k rs ≡ Some n → all_within len rs ≡ false
some_past len k n [] h = cc
some_past len k n (r ∷ rs) h = go (is_past len r) refl h (λ e. some_past len (k + 1) n rs e)
  where
    beyond : (a b : ℕ) → nat_lt a b ≡ true → nat_le b a ≡ false
    beyond a b e = grind (arith, nat_tests)

    within : (a b : ℕ) → nat_lt a b ≡ false → nat_le b a ≡ true
    within a b e = grind (arith, nat_tests)

    go : (b : Bool) → is_past len r ≡ b → cond b (Some k) (position_from (is_past len) (k + 1) rs) ≡ Some n → (position_from (is_past len) (k + 1) rs ≡ Some n → all_within len rs ≡ false) → all_within len (r ∷ rs) ≡ false
    go true e h deep = ap (λ b. b && all_within len rs) (beyond len r.end e)
    go false e h deep = ap (λ b. b && all_within len rs) (within len r.end e) ∙ deep h

pub walk_begins : (len : ℕ) (p : Patch) (ps : List Patch) → Some p ≡ slice_get ps 0 → AreListed 0 ps → walk len 0 p.start ps ≡ position_from (is_past len) 0 (joined ps)
walk_begins len p [] e h = absurd (cc)
walk_begins len p (q ∷ qs) e h = let same : p ≡ q = cc in ap (λ (z : Patch). walk len 0 z.start (q ∷ qs)) same ∙ walk_first len q qs h

-- the walk ends at a patch past the end
pub walk_ends : (len n s n' k : ℕ) (ps : List Patch) (p : Patch) (o : Option ℕ) → k < length ps → p ≡ get_or ps k p → walk len n s (drop k ps) ≡ o → number n s p ≡ n' → len < p.end → Some n' ≡ o
walk_ends len n s n' k ps p o l e inv num past =
    ap Some (sym num) ∙ sym (ap (λ b. cond b (Some (number n s p)) (walk len (number n s p) p.start (drop (k + 1) ps))) (beyond len p.end past)) ∙ sym (ap (walk len n s) (drop_next ps k p l e)) ∙ inv
  where
    beyond : (a b : ℕ) → a < b → nat_lt a b ≡ true
    beyond a b h = grind (arith, nat_tests)

pub number_same : (n s : ℕ) (p : Patch) → p.start ≡ s → number n s p ≡ n
number_same n s p e = ap (λ b. cond b n (n + 1)) (tells_same p.start s e)
