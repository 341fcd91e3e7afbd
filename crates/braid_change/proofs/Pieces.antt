-- What a splice keeps and what it puts in.
use Rattle.std.proofs.Common.{◌≡◌, ◌==◌, ℕ, ◌+◌, ◌-◌, ◌<◌, ◌≤◌, ◌↔◌, List, [], ◌∷◌, ◌++◌, Bool, true, false, cond, nat_le, Option, Some, None, IsSome, option_map, refl, sym, ap, subst, ◌∙◌, arith, take, drop, length, append_assoc, length-append}
use Rattle.std.proofs.lemmas.List.{append-nil, drop_all, drop-take, take-take, length-take-le, length-drop, drop-drop}
use Rattle.std.proofs.lemmas.Bool.{and_parts}
use Rattle.std.proofs.lemmas.List.Sums.{sum_by-cons}
use Rattle.std.proofs.lemmas.Bool.Decides.{nat_tests}
use Rattle.std.specs.List.{position_from}
use Rattle.braid_change.specs.Changes.{AreListed, IsShaped}
use Rattle.braid_change.specs.Splices.{join, joined, all_within, ranges, cut, spliced, is_past, first_past, StartAfter, AreRanges, removed, inserted}
use Rattle.braid_change.specs.declared.patch.Patch.{Patch}
use Rattle.braid_change.specs.declared.change.Change.{Change}
use Rattle.braid_change.specs.declared.change.Change.TheVariants.{Body, Patches}
use Rattle.braid_change.proofs.Runs.{same_start}
use Rattle.braid_change.proofs.Past.{none_past, some_past}
use Rattle.braid_change.proofs.Cuts.{le_is, drop_on, cut_joined, within_joined}

-- a body gives itself
pub body_spliced : (t x : List ℕ) → spliced t (Body x) ≡ Some x
body_spliced t x = ap (λ z. Some (x ++ z)) (drop_all (length t - 0) t (omega arith)) ∙ ap Some (append-nil x)

-- patches that are within the text give the text cut at them
pub patches_spliced : (t : List ℕ) (ps : List Patch) → AreListed 0 ps → position_from (is_past (length t)) 0 (joined ps) ≡ None → spliced t (Patches ps) ≡ Some (cut 0 t ps)
patches_spliced t ps h e = ap (λ b. option_map (cut 0 t) (cond b (Some (joined ps)) None)) (none_past (length t) 0 (joined ps) e) ∙ ap Some (cut_joined ps 0 t h)

-- the same where the text is lent under other names
pub lent_spliced : (t u v made : List ℕ) (ps : List Patch) → u ≡ t → v ≡ t → AreListed 0 ps → position_from (is_past (length u)) 0 (joined ps) ≡ None → made ≡ cut 0 v ps → spliced t (Patches ps) ≡ Some made
lent_spliced t u v made ps a b h e m =
    patches_spliced t ps h (ap (λ z. position_from (is_past (length z)) 0 (joined ps)) (sym a) ∙ e) ∙ ap (λ z. Some (cut 0 z ps)) (sym b) ∙ ap Some (sym m)

pub lent_within : (t u v : List ℕ) (ps : List Patch) → u ≡ t → v ≡ t → AreListed 0 ps → position_from (is_past (length u)) 0 (joined ps) ≡ None → all_within (length v) ps ≡ true
lent_within t u v ps a b h e =
    ap (λ z. all_within (length z) ps) (b ∙ sym a) ∙ within_joined ps 0 (length u) h (none_past (length u) 0 (joined ps) e)

-- a change has no splice exactly where a joined patch is past the end
pub undefined_past : (t : List ℕ) (c : Change) → spliced t c ≡ None ↔ IsSome (first_past t c)
undefined_past t (Body x) = (λ e. absurd (cc), λ h. cc)
undefined_past t (Patches ps) = go (position_from (is_past (length t)) 0 (joined ps)) refl
  where
    go : (o : Option ℕ) → position_from (is_past (length t)) 0 (joined ps) ≡ o → spliced t (Patches ps) ≡ None ↔ IsSome o
    go None e =
        let some : spliced t (Patches ps) ≡ Some (cut 0 t (joined ps)) = ap (λ b. option_map (cut 0 t) (cond b (Some (joined ps)) None)) (none_past (length t) 0 (joined ps) e) in
        (λ none. absurd (cc), λ h. cc)
    go (Some n) e =
        let none : spliced t (Patches ps) ≡ None = ap (λ b. option_map (cut 0 t) (cond b (Some (joined ps)) None)) (some_past (length t) 0 n (joined ps) e) in
        (λ _. refl, λ _. none)

start_same : (s e : ℕ) (t : List ℕ) (q : Patch) (qs : List Patch) → s ≡ q.start → StartAfter q qs → StartAfter (record { start = s; end = e; text = t }) qs
start_same s e t q [] same h = tt
start_same s e t q (x ∷ qs) same h = subst (λ (k : ℕ). k < x.start) (sym same) h

not_same : (a b : ℕ) → a == b ≡ false → (a ≡ b) → ⊥
not_same a b h e = grind (arith, nat_tests)

-- patches that are listed in order are ranges once they are joined
pub joined_ranges : (ps : List Patch) (low len : ℕ) → AreListed low ps → all_within len (joined ps) ≡ true → AreRanges low len (joined ps)
joined_ranges [] low len h w = tt
joined_ranges (p ∷ ps) low len h w = go (joined ps) w (λ v. joined_ranges ps p.end len h.2 v)
  where
    go : (qs : List Patch) → all_within len (join p qs) ≡ true → (all_within len qs ≡ true → AreRanges p.end len qs) → AreRanges low len (join p qs)
    go [] v ih = (h.0, h.1, le_is p.end len (and_parts (nat_le p.end len) true v).0, tt, tt)
    go (q ∷ qs) v ih = by (p.start == q.start) refl v
      where
        by : (b : Bool) → p.start == q.start ≡ b → all_within len (cond b (record { start = p.start; end = q.end; text = p.text ++ q.text } ∷ qs) (p ∷ q ∷ qs)) ≡ true
            → AreRanges low len (cond b (record { start = p.start; end = q.end; text = p.text ++ q.text } ∷ qs) (p ∷ q ∷ qs))
        by true e v =
            let r : AreRanges p.end len (q ∷ qs) = ih v in
            let f = same_start p.start q.start e in
            (h.0, omega (arith, f, r.1), r.2, start_same p.start q.end (p.text ++ q.text) q qs f r.3, r.4)
        by false e v =
            let r : AreRanges p.end len (q ∷ qs) = ih (and_parts (nat_le p.end len) (all_within len (q ∷ qs)) v).1 in
            (h.0, h.1, omega (arith, r.0, r.1, r.2), (let f : (p.start ≡ q.start) → ⊥ = not_same p.start q.start e in omega (arith, f, r.0, h.1)), r)

-- the ranges of a change that has its shape
pub shaped_ranges : (t : List ℕ) (c : Change) (rs : List Patch) → IsShaped c → ranges t c ≡ Some rs → AreRanges 0 (length t) rs
shaped_ranges t (Body x) rs h e = subst (AreRanges 0 (length t)) (let f : record { start = 0; end = length t; text = x } ∷ [] ≡ rs = cc in f) (omega arith, omega arith, omega arith, tt, tt)
shaped_ranges t (Patches ps) rs h e = go (all_within (length t) (joined ps)) refl e
  where
    go : (b : Bool) → all_within (length t) (joined ps) ≡ b → cond b (Some (joined ps)) None ≡ Some rs → AreRanges 0 (length t) rs
    go true w f = subst (AreRanges 0 (length t)) (let g : joined ps ≡ rs = cc in g) (joined_ranges ps 0 (length t) h.listed w)
    go false w f = absurd (cc)

-- a later range does not begin below an earlier end
later : (front back : List Patch) (r : Patch) (low len : ℕ) → AreRanges low len (front ++ r ∷ back) → (low ≤ r.start) × (r.start ≤ r.end) × (r.end ≤ len)
later [] back r low len h = (h.0, h.1, h.2)
later (f ∷ front) back r low len h = let d = later front back r f.end len h.4 in (omega (arith, h.0, h.1, d.0), d.1, d.2)

rest_later : (front back : List Patch) (r : Patch) (low len : ℕ) → AreRanges low len (front ++ r ∷ back) → AreRanges r.end len back
rest_later [] back r low len h = h.4
rest_later (f ∷ front) back r low len h = rest_later front back r f.end len h.4

-- a text is cut at one of its ranges by cutting what stands before it and what stands after it
pub cut_apart : (front back : List Patch) (r : Patch) (at len : ℕ) (t : List ℕ) → AreRanges at len (front ++ r ∷ back) → cut at t (front ++ r ∷ back) ≡ cut at (take (r.start - at) t) front ++ (r.text ++ cut r.end (drop (r.end - at) t) back)
cut_apart [] back r at len t h = refl
cut_apart (f ∷ front) back r at len t h =
    let d = later front back r f.end len h.4 in
    let sum : (f.end - at) + (r.start - f.end) ≡ r.start - at = omega (arith, h.0, h.1, d.0) in
    ap (λ z. take (f.start - at) t ++ (f.text ++ z)) (cut_apart front back r f.end len (drop (f.end - at) t) h.4)
    ∙ ap (λ z. z ++ (f.text ++ (cut f.end (take (r.start - f.end) (drop (f.end - at) t)) front ++ (r.text ++ cut r.end (drop (r.end - f.end) (drop (f.end - at) t)) back)))) (sym (take-take (f.start - at) (r.start - at) t (omega (arith, h.0, h.1, d.0))))
    ∙ ap (λ z. take (f.start - at) (take (r.start - at) t) ++ (f.text ++ (cut f.end z front ++ (r.text ++ cut r.end (drop (r.end - f.end) (drop (f.end - at) t)) back))))
    (sym (drop-take (f.end - at) (r.start - f.end) t) ∙ ap (λ (n : ℕ). drop (f.end - at) (take n t)) sum)
    ∙ ap (λ z. take (f.start - at) (take (r.start - at) t) ++ (f.text ++ (cut f.end (drop (f.end - at) (take (r.start - at) t)) front ++ (r.text ++ cut r.end z back)))) (drop_on at f.end r.end t (omega (arith, h.0, h.1)) (omega (arith, d.0, d.1)))
    ∙ sym (append_assoc (take (f.start - at) (take (r.start - at) t)) (f.text ++ cut f.end (drop (f.end - at) (take (r.start - at) t)) front) _ ∙ ap (λ z. take (f.start - at) (take (r.start - at) t) ++ z) (append_assoc f.text (cut f.end (drop (f.end - at) (take (r.start - at) t)) front) _))

-- the length of what is cut, and what is removed, is the length before and what is inserted
cut_len : (rs : List Patch) (at len : ℕ) (t : List ℕ) → AreRanges at len rs → at + length t ≡ len → length (cut at t rs) + removed rs ≡ length t + inserted rs
cut_len [] at len t h e = refl
cut_len (r ∷ rs) at len t h e = go (cut_len rs r.end len (drop (r.end - at) t) h.4 rest)
  where
    short : r.end - at ≤ length t
    short = omega (arith, h.2)

    left : length (drop (r.end - at) t) ≡ length t - (r.end - at)
    left = length-drop (r.end - at) t

    rest : r.end + length (drop (r.end - at) t) ≡ len
    rest = omega (arith, h.0, h.1, h.2, left)

    front : length (take (r.start - at) t) ≡ r.start - at
    front = length-take-le (r.start - at) t (omega (arith, h.0, h.1, h.2))

    deep : List ℕ
    deep = cut r.end (drop (r.end - at) t) rs

    go : length deep + removed rs ≡ length (drop (r.end - at) t) + inserted rs → length (take (r.start - at) t ++ (r.text ++ deep)) + removed (r ∷ rs) ≡ length t + inserted (r ∷ rs)
    go ih =
        let a : length (take (r.start - at) t ++ (r.text ++ deep)) ≡ length (take (r.start - at) t) + length (r.text ++ deep) = length-append (take (r.start - at) t) (r.text ++ deep) in
        let b : length (r.text ++ deep) ≡ length r.text + length deep = length-append r.text deep in
        let x : removed (r ∷ rs) ≡ (r.end - r.start) + removed rs = sum_by-cons (λ (p : Patch). p.end - p.start) r rs in
        let y : inserted (r ∷ rs) ≡ length r.text + inserted rs = sum_by-cons (λ (p : Patch). length p.text) r rs in
        omega (arith, a, b, x, y, ih, front, short, left, h.0, h.1, h.2)

some_same : {A : Type 0} (x y : A) → Some x ≡ Some y → x ≡ y
some_same x y e = cc

-- a splice by its ranges
by_ranges : (t s : List ℕ) (c : Change) (rs : List Patch) → ranges t c ≡ Some rs → spliced t c ≡ Some s → s ≡ cut 0 t rs
by_ranges t s c rs r e = some_same s (cut 0 t rs) (sym e ∙ ap (option_map (cut 0 t)) r)

pub at_range : (t s : List ℕ) (c : Change) (front back : List Patch) (r : Patch) → IsShaped c → ranges t c ≡ Some (front ++ r ∷ back) → spliced t c ≡ Some s → s ≡ cut 0 (take r.start t) front ++ (r.text ++ cut r.end (drop r.end t) back)
at_range t s c front back r h rs e =
    let none : (n : ℕ) → n - 0 ≡ n = λ n. omega arith in
    by_ranges t s c (front ++ r ∷ back) rs e ∙ cut_apart front back r 0 (length t) t (shaped_ranges t c (front ++ r ∷ back) h rs) ∙ ap (λ (n : ℕ). cut 0 (take n t) front ++ (r.text ++ cut r.end (drop (r.end - 0) t) back)) (none r.start)
    ∙ ap (λ (n : ℕ). cut 0 (take r.start t) front ++ (r.text ++ cut r.end (drop n t) back)) (none r.end)

pub splice_len : (t s : List ℕ) (c : Change) (rs : List Patch) → IsShaped c → ranges t c ≡ Some rs → spliced t c ≡ Some s → length s + removed rs ≡ length t + inserted rs
splice_len t s c rs h r e = ap (λ z. length z + removed rs) (by_ranges t s c rs r e) ∙ cut_len rs 0 (length t) t (shaped_ranges t c rs h r) (omega arith)

-- what stands between two ranges
pub between_ranges : (t s : List ℕ) (c : Change) (front back : List Patch) (q r : Patch) → IsShaped c → ranges t c ≡ Some (front ++ q ∷ r ∷ back) → spliced t c ≡ Some s
    → s ≡ cut 0 (take q.start t) front ++ (q.text ++ (take (r.start - q.end) (drop q.end t) ++ (r.text ++ cut r.end (drop r.end t) back)))
between_ranges t s c front back q r h rs e =
    let d = rest_later front (r ∷ back) q 0 (length t) (shaped_ranges t c (front ++ q ∷ r ∷ back) h rs) in
    let n : q.end + (r.end - q.end) ≡ r.end = omega (arith, d.0, d.1) in
    at_range t s c front (r ∷ back) q h rs e ∙ ap (λ z. cut 0 (take q.start t) front ++ (q.text ++ (take (r.start - q.end) (drop q.end t) ++ (r.text ++ cut r.end z back)))) (drop-drop (r.end - q.end) q.end t ∙ ap (λ (m : ℕ). drop m t) n)
