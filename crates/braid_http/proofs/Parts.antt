-- The parts of a value.
use Rattle.std.proofs.Common.{◌≡◌, ◌≢◌, ℕ, ◌==◌, ◌||◌, Bool, true, false, List, [], ◌∷◌, ◌++◌, refl, ap, sym, ◌∙◌}
use Rattle.std.specs.List.{list_any}
use Rattle.std.proofs.lemmas.Bool.Decides.{nat_tests}
use Rattle.braid_ids.specs.Lists.{Lacks}
use Rattle.braid_http.specs.Framings.{parts_of, is_close}
use Rattle.std.proofs.Common.{arith}

apart : (x : ℕ) → x ≢ 44 → (x == 44) ≡ false
apart x n = grind (arith, nat_tests)

-- a value without a comma is one part
pub one_part : (rest : List ℕ) → Lacks 44 rest → parts_of rest ≡ rest ∷ []
one_part [] h = refl
one_part (x ∷ rest) h = rw (apart x h.0, one_part rest h.1) refl

-- the part before the first comma, and those behind it
pub first_part : (part behind : List ℕ) → Lacks 44 part → parts_of (part ++ 44 ∷ behind) ≡ part ∷ parts_of behind
first_part [] behind h = refl
first_part (x ∷ part) behind h = rw (apart x h.0, first_part part behind h.1) refl

-- a part that is `close` is one of the value's
pub found_part : (value rest part behind : List ℕ) → list_any is_close (parts_of value) ≡ list_any is_close (parts_of rest) → Lacks 44 part → rest ≡ part ++ 44 ∷ behind
    → list_any is_close (parts_of value) ≡ is_close part || list_any is_close (parts_of behind)
found_part value rest part behind i h e = i ∙ ap (λ z. list_any is_close (parts_of z)) e ∙ ap (list_any is_close) (first_part part behind h)

or_false : (b : Bool) → b || false ≡ b
or_false true = refl
or_false false = refl

-- the last part
pub last_part : (value rest : List ℕ) → list_any is_close (parts_of value) ≡ list_any is_close (parts_of rest) → Lacks 44 rest → is_close rest ≡ list_any is_close (parts_of value)
last_part value rest i h = sym (i ∙ ap (list_any is_close) (one_part rest h) ∙ or_false (is_close rest))
