-- Arrival numbers, as the map of the entries gives them.
use Rattle.std.proofs.Common.{◌≡◌, ℕ, ◌≤◌, List, [], ◌∷◌, Bool, true, false, cond, ltb, length, get_or, slice_get, position, Some, None, arith, nat_eq, refl, sym, ap, subst, ◌∙◌}
use Rattle.std.specs.List.{Contains, position_or_len}
use Rattle.std.specs.Map.{keys_of}
use Rattle.std.specs.Cmp.Lexicographic.{pointwise, pointwise_decides}
use Rattle.std.proofs.lemmas.Bool.Decides.{Decides-eqb, nat_tests}
use Rattle.std.proofs.lemmas.List.Quantifiers.{position-Some}
use Rattle.std.proofs.lemmas.List.Sums.{fails_before_first}
use Rattle.std.proofs.lemmas.Option.{slice_get-get_or}
use Rattle.braid_graph.specs.Entries.{ids_of, Holds}
use Rattle.braid_graph.specs.Inside.{entries_in}

pub ids_of-entries_in : (ps : List (List ℕ × List (List ℕ))) → ids_of (entries_in ps) ≡ keys_of ps
ids_of-entries_in [] = refl
ids_of-entries_in (p ∷ ps) = ap (λ (t : List (List ℕ)). p.0 ∷ t) (ids_of-entries_in ps)

-- the first place that passes holds what passes, and where there is none nothing passes
position_none : {A : Type 0} (p : A → Bool) (xs : List A) (x : A) → position p xs ≡ None → Contains xs x → p x ≡ true → ⊥
position_none p xs x none (k, l, e) h =
    let far : length xs ≤ position_or_len p xs = past (position_or_len p xs) (length xs) none in
    let fails : p (get_or xs k x) ≡ false = fails_before_first p xs k x (omega arith) in
    let same : p (get_or xs k x) ≡ p x = ap p e in
    cc
  where
    past : (a b : ℕ) → cond (ltb a b) (Some a) None ≡ None → b ≤ a
    past a b h = grind (arith, nat_tests)

pub number_found : (ps : List (List ℕ × List (List ℕ))) (v : List ℕ) (n : ℕ) → position (pointwise nat_eq v) (keys_of ps) ≡ Some n → slice_get (ids_of (entries_in ps)) n ≡ Some v
number_found ps v n h =
    let found = position-Some (pointwise nat_eq v) (keys_of ps) n v h in
    let same : v ≡ get_or (keys_of ps) n v = (pointwise_decides Decides-eqb v (get_or (keys_of ps) n v)).0 found.1 in
    subst (λ (t : List (List ℕ)). slice_get t n ≡ Some v) (sym (ids_of-entries_in ps)) (slice_get-get_or (keys_of ps) n v found.0 ∙ ap Some (sym same))

pub number_missing : (ps : List (List ℕ × List (List ℕ))) (v : List ℕ) → position (pointwise nat_eq v) (keys_of ps) ≡ None → Holds (entries_in ps) v → ⊥
number_missing ps v h held =
    position_none (pointwise nat_eq v) (keys_of ps) v h (subst (λ (t : List (List ℕ)). Contains t v) (ids_of-entries_in ps) held) ((pointwise_decides Decides-eqb v v).1 refl)
