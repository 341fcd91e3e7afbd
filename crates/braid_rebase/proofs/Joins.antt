-- How many joined patches there are, and how many characters they insert.
use Rattle.std.proofs.Common.{◌≡◌, ◌==◌, ℕ, ◌+◌, ◌≤◌, List, [], ◌∷◌, ◌++◌, Bool, true, false, cond, length, refl, sym, ap, subst, ◌∙◌, arith, sum_by, encode_utf8_all, length-append, Some, None}
use Rattle.std.proofs.lemmas.List.Sums.{sum_by-cons}
use Rattle.std.proofs.lemmas.List.Concat.{flat_map-cons}
use Rattle.std.specs.Char.{len_utf8}
use Rattle.std.specs.List.{position_from}
use Rattle.braid_change.specs.declared.patch.Patch.{Patch}
use Rattle.braid_change.specs.declared.change.Change.{Change}
use Rattle.braid_change.specs.declared.change.Change.TheVariants.{Body, Patches}
use Rattle.braid_change.specs.Changes.{IsShaped, patches_content}
use Rattle.braid_change.specs.Splices.{join, joined, ranges, inserted, is_past, all_within, first_past}
use Rattle.braid_change.proofs.Lengths.{encoded_len}
use Rattle.braid_change.proofs.Past.{none_past}

join_fewer : (p : Patch) (qs : List Patch) → length (join p qs) ≤ 1 + length qs
join_fewer p [] = omega arith
join_fewer p (q ∷ qs) = go (p.start == q.start)
  where
    go : (b : Bool) → length (cond b (record { start = p.start; end = q.end; text = p.text ++ q.text } ∷ qs) (p ∷ q ∷ qs)) ≤ 1 + length (q ∷ qs)
    go true = omega arith
    go false = omega arith

pub joined_fewer : (ps : List Patch) → length (joined ps) ≤ length ps
joined_fewer [] = omega arith
joined_fewer (p ∷ ps) = omega (arith, join_fewer p (joined ps), joined_fewer ps)

join_inserts : (p : Patch) (qs : List Patch) → inserted (join p qs) ≡ length p.text + inserted qs
join_inserts p [] = sum_by-cons (λ (r : Patch). length r.text) p []
join_inserts p (q ∷ qs) = go (p.start == q.start)
  where
    one : Patch
    one = record { start = p.start; end = q.end; text = p.text ++ q.text }

    go : (b : Bool) → inserted (cond b (one ∷ qs) (p ∷ q ∷ qs)) ≡ length p.text + inserted (q ∷ qs)
    go true = omega (arith, sum_by-cons (λ (r : Patch). length r.text) one qs, sum_by-cons (λ (r : Patch). length r.text) q qs, length-append p.text q.text)
    go false = sum_by-cons (λ (r : Patch). length r.text) p (q ∷ qs)

pub joined_inserts : (ps : List Patch) → inserted (joined ps) ≡ inserted ps
joined_inserts [] = refl
joined_inserts (p ∷ ps) = join_inserts p (joined ps) ∙ ap (λ (n : ℕ). length p.text + n) (joined_inserts ps) ∙ sym (sum_by-cons (λ (r : Patch). length r.text) p ps)

-- a character has one byte of UTF-8 at least
chars_bytes : (cs : List ℕ) → length cs ≤ sum_by len_utf8 cs
chars_bytes [] = omega arith
chars_bytes (c ∷ cs) = omega (arith, chars_bytes cs, sum_by-cons len_utf8 c cs, one c)
  where
    three : (b : Bool) → 1 ≤ cond b 3 4
    three true = omega arith
    three false = omega arith

    two : (a b : Bool) → 1 ≤ cond a 2 (cond b 3 4)
    two true b = omega arith
    two false b = three b

    first : (d a b : Bool) → 1 ≤ cond d 1 (cond a 2 (cond b 3 4))
    first true a b = omega arith
    first false a b = two a b

    one : (c : ℕ) → 1 ≤ len_utf8 c
    one c = first _ _ _

pub text_bytes : (cs : List ℕ) → length cs ≤ length (encode_utf8_all cs)
text_bytes cs = omega (arith, chars_bytes cs, encoded_len cs)

patches_bytes : (ps : List Patch) → inserted ps ≤ length (patches_content ps)
patches_bytes [] = omega arith
patches_bytes (p ∷ ps) = omega (arith, sum_by-cons (λ (r : Patch). length r.text) p ps, text_bytes p.text, patches_bytes ps, ap length (flat_map-cons (λ (r : Patch). encode_utf8_all r.text) p ps), length-append (encode_utf8_all p.text) (patches_content ps))

-- the ranges of a change that has its shape insert few characters
pub inserts_few : (t : List ℕ) (change : Change) (rs : List Patch) → IsShaped change → ranges t change ≡ Some rs → inserted rs ≤ 1048576
inserts_few t (Body x) rs shaped e = subst (λ (qs : List Patch). inserted qs ≤ 1048576) same (omega (arith, text_bytes x, shaped.short, sum_by-cons (λ (r : Patch). length r.text) (record { start = 0; end = length t; text = x }) []))
  where
    same : record { start = 0; end = length t; text = x } ∷ [] ≡ rs
    same = cc
inserts_few t (Patches ps) rs shaped e = go (all_within (length t) (joined ps)) e
  where
    go : (b : Bool) → cond b (Some (joined ps)) None ≡ Some rs → inserted rs ≤ 1048576
    go true f = subst (λ (qs : List Patch). inserted qs ≤ 1048576) (let g : joined ps ≡ rs = cc in g) (omega (arith, joined_inserts ps, patches_bytes ps, shaped.short))
    go false f = cc

-- joined patches of which none is past the end are ranges
pub ranges_from : (t : List ℕ) (len : ℕ) (ps list : List Patch) → length t ≡ len → list ≡ joined ps → position_from (is_past len) 0 list ≡ None → ranges t (Patches ps) ≡ Some list
ranges_from t len ps list e f h =
    ap (λ (b : Bool). cond b (Some (joined ps)) None) (none_past (length t) 0 (joined ps) (ap (λ (n : ℕ). position_from (is_past n) 0 (joined ps)) e ∙ ap (position_from (is_past len) 0) (sym f) ∙ h)) ∙ ap Some (sym f)

pub past_from : (t : List ℕ) (len n : ℕ) (ps list : List Patch) → length t ≡ len → list ≡ joined ps → position_from (is_past len) 0 list ≡ Some n → first_past t (Patches ps) ≡ Some n
past_from t len n ps list e f h = ap (λ (m : ℕ). position_from (is_past m) 0 (joined ps)) e ∙ ap (position_from (is_past len) 0) (sym f) ∙ h
