-- Patches are joined run by run: those of one start, and then the rest.
use Rattle.std.proofs.Common.{◌≡◌, ◌==◌, ℕ, suc, ◌+◌, ◌-◌, ◌≤◌, List, [], ◌∷◌, ◌++◌, Bool, true, false, cond, Some, refl, sym, ap, subst, ◌∙◌, arith, take, drop, length, get_or, slice_get, flat_map, append_assoc}
use Rattle.std.proofs.lemmas.List.{append-nil}
use Rattle.std.proofs.lemmas.List.Sums.{prefix_len-le-length}
use Rattle.std.proofs.lemmas.Bool.Decides.{nat_tests}
use Rattle.std.specs.List.{prefix_len}
use Rattle.braid_change.specs.Splices.{join, joined}
use Rattle.braid_change.specs.declared.patch.Patch.{Patch}

pub same_start : (a b : ℕ) → a == b ≡ true → a ≡ b
same_start a b h = grind (arith, nat_tests)

pub tells_same : (a b : ℕ) → a ≡ b → a == b ≡ true
tells_same a b h = grind (arith, nat_tests)

-- a patch of this start
abbrev pub starts_at : ℕ → Patch → Bool
starts_at s p = p.start == s

abbrev pub text_of : Patch → List ℕ
text_of p = p.text

-- the end of the last of some patches
abbrev pub last_end : Patch → List Patch → ℕ
last_end p [] = p.end
last_end p (q ∷ qs) = last_end q qs

-- the first of joined patches has the start of the first patch
pub record Opens (s : ℕ) (rs : List Patch) : Type 0 where
  pub first : Patch
  pub others : List Patch
  pub is : rs ≡ first ∷ others
  pub start : first.start ≡ s

pub opens : (p : Patch) (ps : List Patch) → Opens p.start (joined (p ∷ ps))
opens p ps = go (joined ps)
  where
    go : (qs : List Patch) → Opens p.start (join p qs)
    go [] = record { first = p; others = []; is = refl; start = refl }
    go (q ∷ qs) = by (p.start == q.start)
      where
        by : (b : Bool) → Opens p.start (cond b (record { start = p.start; end = q.end; text = p.text ++ q.text } ∷ qs) (p ∷ q ∷ qs))
        by true = record { first = record { start = p.start; end = q.end; text = p.text ++ q.text }; others = qs; is = refl; start = refl }
        by false = record { first = p; others = q ∷ qs; is = refl; start = refl }

-- the run of patches of start s that begins with p, made into one
abbrev pub run_of : Patch → List Patch → Patch
run_of p qs = record { start = p.start; end = last_end p qs; text = p.text ++ flat_map text_of qs }

pub join_other : (p : Patch) (qs : List Patch) (s : ℕ) → Opens s qs → p.start == s ≡ false → join p qs ≡ p ∷ qs
join_other p qs s o ne = ap (join p) o.is ∙ step ∙ ap (λ z. p ∷ z) (sym o.is)
  where
    test : p.start == o.first.start ≡ false
    test = ap (λ n. p.start == n) o.start ∙ ne

    step : join p (o.first ∷ o.others) ≡ p ∷ o.first ∷ o.others
    step = ap (λ b. cond b (record { start = p.start; end = o.first.end; text = p.text ++ o.first.text } ∷ o.others) (p ∷ o.first ∷ o.others)) test

join_same : (p q : Patch) (qs : List Patch) → p.start == q.start ≡ true → join p (q ∷ qs) ≡ record { start = p.start; end = q.end; text = p.text ++ q.text } ∷ qs
join_same p q qs e = ap (λ b. cond b (record { start = p.start; end = q.end; text = p.text ++ q.text } ∷ qs) (p ∷ q ∷ qs)) e

alone : (p : Patch) → p ≡ run_of p []
alone p = λ i. record { start = p.start; end = p.end; text = sym (append-nil p.text) i }

pub joined_run : (s : ℕ) (p : Patch) (ps : List Patch) → p.start ≡ s → joined (p ∷ ps) ≡ run_of p (take (prefix_len (starts_at s) ps) ps) ∷ joined (drop (prefix_len (starts_at s) ps) ps)
joined_run s p [] e = ap (λ r. r ∷ []) (alone p)
joined_run s p (q ∷ qs) e = go (starts_at s q) refl (λ same. joined_run s q qs same)
  where
    goal : ℕ → Type 0
    goal n = join p (joined (q ∷ qs)) ≡ run_of p (take n (q ∷ qs)) ∷ joined (drop n (q ∷ qs))

    Deep : Type 0
    Deep = q.start ≡ s → joined (q ∷ qs) ≡ run_of q (take (prefix_len (starts_at s) qs) qs) ∷ joined (drop (prefix_len (starts_at s) qs) qs)

    go : (b : Bool) → starts_at s q ≡ b → Deep → goal (cond b (1 + prefix_len (starts_at s) qs) 0)
    go true h deep =
        let n = prefix_len (starts_at s) qs in
        let same : q.start ≡ s = same_start q.start s h in
        let next : goal (suc n) =
        ap (join p) (deep same) ∙ join_same p (run_of q (take n qs)) (joined (drop n qs)) (tells_same p.start q.start (e ∙ sym same)) in
        let one : suc n ≡ 1 + n = omega arith in
        subst goal one next
    go false h deep = join_other p (joined (q ∷ qs)) q.start (opens q qs) (differ p.start q.start s e h) ∙ ap (λ r. r ∷ joined (q ∷ qs)) (alone p)
      where
        differ : (a b s : ℕ) → a ≡ s → b == s ≡ false → a == b ≡ false
        differ a b s e h = grind (arith, nat_tests)

last_item : (p d : Patch) (ps : List Patch) → (get_or (p ∷ ps) (length (p ∷ ps) - 1) d).end ≡ last_end p ps
last_item p d [] = refl
last_item p d (q ∷ qs) =
    let e : length (p ∷ q ∷ qs) - 1 ≡ suc (length (q ∷ qs) - 1) = omega arith in
    ap (λ (n : ℕ). (get_or (p ∷ q ∷ qs) n d).end) e ∙ last_item q d qs

-- a patch with the parts of a run is the run made into one
is_run : (p r : Patch) (qs : List Patch) → r.start ≡ (get_or (p ∷ qs) 0 r).start → r.end ≡ (get_or (p ∷ qs) (length (p ∷ qs) - 1) r).end → r.text ≡ flat_map text_of (p ∷ qs) → r ≡ run_of p qs
is_run p r qs a b c =
    let end : r.end ≡ last_end p qs = b ∙ last_item p r qs in
    λ i. record { start = a i; end = end i; text = c i }

-- one more run at the front of what is left
pub joined_more : (done new whole rest run after : List Patch) (p r : Patch) (n : ℕ) → done ++ joined rest ≡ whole → Some p ≡ slice_get rest 0 → n ≡ prefix_len (starts_at p.start) rest → run ≡ take n rest → after ≡ drop n rest
    → r.start ≡ (get_or run 0 r).start → r.end ≡ (get_or run (length run - 1) r).end → r.text ≡ flat_map text_of run → new ≡ done ++ r ∷ [] → new ++ joined after ≡ whole
joined_more done new whole [] run after p r n inv first len front back start end text push = absurd (cc)
joined_more done new whole (q ∷ qs) run after p r n inv first len front back start end text push = go (cc)
  where
    m : ℕ
    m = prefix_len (starts_at q.start) qs

    same : q ≡ p → n ≡ suc m
    same e =
        let k : n ≡ prefix_len (starts_at q.start) (q ∷ qs) = subst (λ (z : Patch). n ≡ prefix_len (starts_at z.start) (q ∷ qs)) (sym e) len in
        let own : prefix_len (starts_at q.start) (q ∷ qs) ≡ 1 + m = ap (λ b. cond b (1 + m) 0) (tells_same q.start q.start refl) in
        omega arith

    go : q ≡ p → new ++ joined after ≡ whole
    go e =
        let size : n ≡ suc m = same e in
        let run_is : run ≡ q ∷ take m qs = front ∙ ap (λ (k : ℕ). take k (q ∷ qs)) size in
        let after_is : after ≡ drop m qs = back ∙ ap (λ (k : ℕ). drop k (q ∷ qs)) size in
        let one : r ≡ run_of q (take m qs) = is_run q r (take m qs) (subst (λ (z : List Patch). r.start ≡ (get_or z 0 r).start) run_is start) (subst (λ (z : List Patch). r.end ≡ (get_or z (length z - 1) r).end) run_is end) (subst (λ (z : List Patch). r.text ≡ flat_map text_of z) run_is text) in
        ap (λ z. z ++ joined after) push ∙ append_assoc done (r ∷ []) (joined after) ∙ ap (λ z. done ++ r ∷ joined z) after_is
        ∙ ap (λ z. done ++ z ∷ joined (drop m qs)) one ∙ ap (λ z. done ++ z) (sym (joined_run q.start q qs refl)) ∙ inv

pub run_within : (rest : List Patch) (s n : ℕ) → n ≡ prefix_len (starts_at s) rest → n ≤ length rest
run_within rest s n e = let h = prefix_len-le-length (starts_at s) rest in omega arith
