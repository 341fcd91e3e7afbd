-- A text is cut at patches that are joined or not, and piece by piece.
use Rattle.std.proofs.Common.{◌≡◌, ◌==◌, ℕ, ◌+◌, ◌-◌, ◌<◌, ◌≤◌, List, [], ◌∷◌, ◌++◌, Bool, true, false, cond, nat_le, ◌&&◌, refl, sym, ap, subst, ◌∙◌, arith, take, drop, length, get_or, append_assoc}
use Rattle.std.proofs.lemmas.List.{drop-drop, take-append-drop}
use Rattle.std.specs.Str.{all_scalars}
use lib.Utf8.{scalar}
use Rattle.braid_change.proofs.Lengths.{scalars_append}
use Rattle.braid_change.proofs.Past.{drop_next}
use Rattle.std.proofs.lemmas.Bool.{and_parts}
use Rattle.std.proofs.lemmas.Bool.Decides.{nat_tests}
use Rattle.braid_change.specs.Changes.{AreListed}
use Rattle.braid_change.specs.Splices.{join, joined, all_within, cut}
use Rattle.braid_change.proofs.Runs.{Opens, opens, join_other, same_start}
use Rattle.braid_change.specs.declared.patch.Patch.{Patch}

pub le_is : (a b : ℕ) → nat_le a b ≡ true → a ≤ b
le_is a b h = grind (arith, nat_tests)

pub le_tells : (a b : ℕ) → a ≤ b → nat_le a b ≡ true
le_tells a b h = grind (arith, nat_tests)

-- joined with the first of joined patches
pub joins : (p : Patch) (rs : List Patch) (s : ℕ) (o : Opens s rs) → p.start == s ≡ true → join p rs ≡ record { start = p.start; end = o.first.end; text = p.text ++ o.first.text } ∷ o.others
joins p rs s o e = ap (join p) o.is ∙ ap (λ b. cond b (record { start = p.start; end = o.first.end; text = p.text ++ o.first.text } ∷ o.others) (p ∷ o.first ∷ o.others)) (ap (λ n. p.start == n) o.start ∙ e)

-- joined patches are listed as the patches are
pub joined_listed : (ps : List Patch) (low : ℕ) → AreListed low ps → AreListed low (joined ps)
joined_listed [] low h = tt
joined_listed (p ∷ []) low h = h
joined_listed (p ∷ q ∷ qs) low h = go (p.start == q.start) refl (joined_listed (q ∷ qs) p.end h.2)
  where
    o : Opens q.start (joined (q ∷ qs))
    o = opens q qs

    go : (b : Bool) → p.start == q.start ≡ b → AreListed p.end (joined (q ∷ qs)) → AreListed low (join p (joined (q ∷ qs)))
    go true e deep =
        let d = subst (AreListed p.end) o.is deep in
        subst (AreListed low) (sym (joins p (joined (q ∷ qs)) q.start o e)) (h.0, omega (arith, h.1, d.0, d.1), d.2)
    go false e deep = subst (AreListed low) (sym (join_other p (joined (q ∷ qs)) q.start o e)) (h.0, h.1, deep)

-- all are within where all joined ones are
pub within_joined : (ps : List Patch) (low len : ℕ) → AreListed low ps → all_within len (joined ps) ≡ true → all_within len ps ≡ true
within_joined [] low len h w = refl
within_joined (p ∷ []) low len h w = w
within_joined (p ∷ q ∷ qs) low len h w = go (p.start == q.start) refl (λ v. within_joined (q ∷ qs) p.end len h.2 v)
  where
    o : Opens q.start (joined (q ∷ qs))
    o = opens q qs

    front : all_within len (q ∷ qs) ≡ true → all_within len (p ∷ q ∷ qs) ≡ true
    front v =
        let a : q.end ≤ len = le_is q.end len (and_parts (nat_le q.end len) (all_within len qs) v).0 in
        ap (λ b. b && all_within len (q ∷ qs)) (le_tells p.end len (omega (arith, h.2.0, h.2.1))) ∙ v

    go : (b : Bool) → p.start == q.start ≡ b → (all_within len (joined (q ∷ qs)) ≡ true → all_within len (q ∷ qs) ≡ true) → all_within len (p ∷ q ∷ qs) ≡ true
    go true e deep =
        let v : all_within len (record { start = p.start; end = o.first.end; text = p.text ++ o.first.text } ∷ o.others) ≡ true = ap (all_within len) (sym (joins p (joined (q ∷ qs)) q.start o e)) ∙ w in
        front (deep (ap (all_within len) o.is ∙ v))
    go false e deep =
        let v : all_within len (p ∷ joined (q ∷ qs)) ≡ true = ap (all_within len) (sym (join_other p (joined (q ∷ qs)) q.start o e)) ∙ w in
        front (deep (and_parts (nat_le p.end len) (all_within len (joined (q ∷ qs))) v).1)

-- all joined ones are within where all are
joined_within : (ps : List Patch) (len : ℕ) → all_within len ps ≡ true → all_within len (joined ps) ≡ true
joined_within [] len w = refl
joined_within (p ∷ []) len w = w
joined_within (p ∷ q ∷ qs) len w = go (p.start == q.start) refl (joined_within (q ∷ qs) len rest)
  where
    rest : all_within len (q ∷ qs) ≡ true
    rest = (and_parts (nat_le p.end len) (all_within len (q ∷ qs)) w).1

    o : Opens q.start (joined (q ∷ qs))
    o = opens q qs

    go : (b : Bool) → p.start == q.start ≡ b → all_within len (joined (q ∷ qs)) ≡ true → all_within len (join p (joined (q ∷ qs))) ≡ true
    go true e deep = ap (all_within len) (joins p (joined (q ∷ qs)) q.start o e) ∙ ap (all_within len) (sym o.is) ∙ deep
    go false e deep =
        ap (all_within len) (join_other p (joined (q ∷ qs)) q.start o e)
        ∙ ap (λ b. b && all_within len (joined (q ∷ qs))) (and_parts (nat_le p.end len) (all_within len (q ∷ qs)) w).0
        ∙ deep

same_flag : (a b : Bool) → (a ≡ true → b ≡ true) → (b ≡ true → a ≡ true) → a ≡ b
same_flag true b f g = sym (f refl)
same_flag false true f g = g refl
same_flag false false f g = refl

pub within_same : (ps : List Patch) (low len : ℕ) → AreListed low ps → all_within len (joined ps) ≡ all_within len ps
within_same ps low len h = same_flag _ _ (within_joined ps low len h) (joined_within ps len)

pub drop_on : {A : Type 0} (a b c : ℕ) (t : List A) → a ≤ b → b ≤ c → drop (c - b) (drop (b - a) t) ≡ drop (c - a) t
drop_on a b c t h k = let e : (b - a) + (c - b) ≡ c - a = omega arith in drop-drop (c - b) (b - a) t ∙ ap (λ (n : ℕ). drop n t) e

-- patches of one start need not be joined before a text is cut at them
pub cut_joined : (ps : List Patch) (at : ℕ) (t : List ℕ) → AreListed at ps → cut at t (joined ps) ≡ cut at t ps
cut_joined [] at t h = refl
cut_joined (p ∷ []) at t h = refl
cut_joined (p ∷ q ∷ qs) at t h = go (p.start == q.start) refl (cut_joined (q ∷ qs) p.end (drop (p.end - at) t) h.2)
  where
    o : Opens q.start (joined (q ∷ qs))
    o = opens q qs

    left : List ℕ
    left = drop (p.end - at) t

    go : (b : Bool) → p.start == q.start ≡ b → cut p.end left (joined (q ∷ qs)) ≡ cut p.end left (q ∷ qs) → cut at t (join p (joined (q ∷ qs))) ≡ cut at t (p ∷ q ∷ qs)
    go false e deep = ap (cut at t) (join_other p (joined (q ∷ qs)) q.start o e) ∙ ap (λ z. take (p.start - at) t ++ (p.text ++ z)) deep
    go true e deep =
        ap (cut at t) (joins p (joined (q ∷ qs)) q.start o e)
        ∙ ap (λ z. take (p.start - at) t ++ z) (append_assoc p.text o.first.text _ ∙ ap (λ z. p.text ++ z) (ap (λ z. o.first.text ++ cut o.first.end z o.others) (sym (drop_on at p.end o.first.end t low high)) ∙ front ∙ ap (cut p.end left) (sym o.is) ∙ deep))
      where
        d : AreListed p.end (o.first ∷ o.others)
        d = subst (AreListed p.end) o.is (joined_listed (q ∷ qs) p.end h.2)

        low : at ≤ p.end
        low = omega (arith, h.0, h.1)

        high : p.end ≤ o.first.end
        high = omega (arith, d.0, d.1)

        none : o.first.start - p.end ≡ 0
        none = let a : p.start ≡ q.start = same_start p.start q.start e in let b : o.first.start ≡ q.start = o.start in omega (arith, h.1, a, b)

        front : o.first.text ++ cut o.first.end (drop (o.first.end - p.end) left) o.others ≡ cut p.end left (o.first ∷ o.others)
        front = sym (ap (λ (n : ℕ). take n left ++ (o.first.text ++ cut o.first.end (drop (o.first.end - p.end) left) o.others)) none)

-- what is left of the patches, opened at the next one
pub next_listed : (ps : List Patch) (k low : ℕ) (p : Patch) → k < length ps → p ≡ get_or ps k p → AreListed low (drop k ps) → AreListed low (p ∷ drop (k + 1) ps)
next_listed ps k low p l e h = subst (AreListed low) (drop_next ps k p l e) h

pub next_within : (ps : List Patch) (k len : ℕ) (p : Patch) → k < length ps → p ≡ get_or ps k p → all_within len (drop k ps) ≡ true → (p.end ≤ len) × (all_within len (drop (k + 1) ps) ≡ true)
next_within ps k len p l e h =
    let v : all_within len (p ∷ drop (k + 1) ps) ≡ true = ap (all_within len) (sym (drop_next ps k p l e)) ∙ h in
    let w = and_parts (nat_le p.end len) (all_within len (drop (k + 1) ps)) v in
    (le_is p.end len w.0, w.1)

-- one more patch: the piece before it and its text are done
pub next_cut : (text done one two body whole : List ℕ) (ps : List Patch) (at k : ℕ) (p : Patch) → k < length ps → p ≡ get_or ps k p → at ≤ p.start → p.start ≤ p.end → done ++ cut at (drop at text) (drop k ps) ≡ whole
    → one ≡ done ++ take (p.start - at) (drop at text) → body ≡ p.text → two ≡ one ++ body → two ++ cut p.end (drop p.end text) (drop (k + 1) ps) ≡ whole
next_cut text done one two body whole ps at k p l e low order inv first text_is second =
    ap (λ z. z ++ cut p.end (drop p.end text) (drop (k + 1) ps)) (second ∙ ap (λ z. one ++ z) text_is ∙ ap (λ z. z ++ p.text) first)
    ∙ append_assoc (done ++ take (p.start - at) (drop at text)) p.text (cut p.end (drop p.end text) (drop (k + 1) ps)) ∙ append_assoc done (take (p.start - at) (drop at text)) _
    ∙ ap (λ z. done ++ (take (p.start - at) (drop at text) ++ (p.text ++ cut p.end z (drop (k + 1) ps)))) (sym left) ∙ sym (ap (λ z. done ++ cut at (drop at text) z) (drop_next ps k p l e)) ∙ inv
  where
    left : drop (p.end - at) (drop at text) ≡ drop p.end text
    left = let n : at + (p.end - at) ≡ p.end = omega arith in drop-drop (p.end - at) at text ∙ ap (λ (m : ℕ). drop m text) n

scalars_parts : (xs ys : List ℕ) → all_scalars (xs ++ ys) ≡ true → (all_scalars xs ≡ true) × (all_scalars ys ≡ true)
scalars_parts [] ys h = (refl, h)
scalars_parts (x ∷ xs) ys h =
    let p = and_parts (scalar x) (all_scalars (xs ++ ys)) h in
    let q = scalars_parts xs ys p.1 in
    (ap (λ b. b && all_scalars xs) p.0 ∙ q.0, q.1)

pub scalars_take : (n : ℕ) (xs : List ℕ) → all_scalars xs ≡ true → all_scalars (take n xs) ≡ true
scalars_take n xs h = (scalars_parts (take n xs) (drop n xs) (ap all_scalars (take-append-drop n xs) ∙ h)).0

pub scalars_drop : (n : ℕ) (xs : List ℕ) → all_scalars xs ≡ true → all_scalars (drop n xs) ≡ true
scalars_drop n xs h = (scalars_parts (take n xs) (drop n xs) (ap all_scalars (take-append-drop n xs) ∙ h)).1

pub scalars_joined : (xs ys zs : List ℕ) → zs ≡ xs ++ ys → all_scalars xs ≡ true → all_scalars ys ≡ true → all_scalars zs ≡ true
scalars_joined xs ys zs e a b = ap all_scalars e ∙ scalars_append xs ys a b

-- the piece before a patch and its text are scalar values too
pub next_scalars : (text done one two body : List ℕ) (at n : ℕ) → one ≡ done ++ take n (drop at text) → two ≡ one ++ body → all_scalars text ≡ true → all_scalars done ≡ true → all_scalars body ≡ true → all_scalars two ≡ true
next_scalars text done one two body at n e f a b c = scalars_joined one body two f (scalars_joined done (take n (drop at text)) one e b (scalars_take n (drop at text) (scalars_drop at text a))) c

pub last_scalars : (text done all : List ℕ) (at n : ℕ) → all ≡ done ++ take n (drop at text) → all_scalars text ≡ true → all_scalars done ≡ true → all_scalars all ≡ true
last_scalars text done all at n e a b = scalars_joined done (take n (drop at text)) all e b (scalars_take n (drop at text) (scalars_drop at text a))
