-- What stands around data is passed byte by byte.
use Rattle.std.proofs.Common.{◌≡◌, ℕ, ◌+◌, ◌<◌, ◌≤◌, append_assoc, append-nil, List, [], ◌∷◌, ◌++◌, ap, sym, subst, length, take, arith, get_or}
use Rattle.braid_io.specs.Outside.{Intake}
use Rattle.braid_http.specs.declared.around.Framing.{Framing}
use Rattle.braid_http.specs.declared.around.Next.{Next}
use Rattle.braid_http.specs.declared.around.Next.TheVariants as nexts
use Rattle.braid_http.specs.declared.around.Passed.TheVariants as passes
use Rattle.braid_http.specs.BodySteps.{IsAround, Comes, Passes}
use Rattle.braid_http.specs.Draws.{Draws, DrawsToEnd, DrawsAndFails}
use Rattle.braid_http.proofs.BodySteps.{draws_none, draws_both, draws_end, draws_fail}

-- these bytes were passed, and the reading stands there
pub record IsPassing (first : Framing) (begun : List ℕ) (now : Framing) (line held kept : List ℕ) (old new : Intake) : Type 0 where
  pub used : List ℕ
  pub draws : Draws used held kept old new
  pub at : (content b : List ℕ) → IsAround first begun content b → IsAround now line content (b ++ used)

pub passing_none : (first : Framing) (begun held : List ℕ) (i : Intake) → IsPassing first begun first begun held held i i
passing_none first begun held i = record { used = []; draws = draws_none held i; at = λ content b h. subst (λ z. IsAround first begun content z) (sym (append-nil b)) h }

one_byte : (buf : List ℕ) (n : ℕ) → 0 < n → n ≤ length buf → length buf ≡ 1 → take n buf ≡ get_or buf 0 0 ∷ []
one_byte [] n s w l = absurd (omega (arith, l))
one_byte (x ∷ []) n s w l =
    let one : n ≡ 0 + 1 = omega (arith, s, w) in
    ap (λ z. take z (x ∷ [])) one
one_byte (x ∷ y ∷ buf) n s w l = absurd (omega (arith, l))

-- one byte more was taken
record OneMore (first : Framing) (begun : List ℕ) (now : Framing) (line held kept : List ℕ) (byte : ℕ) (old new : Intake) : Type 0 where
  used : List ℕ
  draws : Draws (used ++ byte ∷ []) held kept old new
  at : (content b : List ℕ) → IsAround first begun content b → IsAround now line content (b ++ used)

one_more : (first now : Framing) (begun line held mid kept buf : List ℕ) (n : ℕ) (i j k : Intake) → IsPassing first begun now line held mid i j → 0 < n → n ≤ length buf → length buf ≡ 1 → Draws (take n buf) mid kept j k
    → OneMore first begun now line held kept (get_or buf 0 0) i k
one_more first now begun line held mid kept buf n i j k p s w l d = record {
  used = p.used;
  draws = subst (λ z. Draws (p.used ++ z) held kept i k) (one_byte buf n s w l) (draws_both p.used (take n buf) held mid kept i j k p.draws d);
  at = p.at;
}

comes_after : (x : Next) (line content b used : List ℕ) (byte : ℕ) → Comes x line content ((b ++ used) ++ byte ∷ []) → Comes x line content (b ++ (used ++ byte ∷ []))
comes_after x line content b used byte h = subst (λ z. Comes x line content z) (append_assoc b used (byte ∷ [])) h

pub passing_on : (first now next : Framing) (begun line after held mid kept buf : List ℕ) (n : ℕ) (i j k : Intake) → IsPassing first begun now line held mid i j → 0 < n → n ≤ length buf → length buf ≡ 1 → Draws (take n buf) mid kept j k
    → ((content b : List ℕ) → IsAround now line content b → Comes (nexts.Around next) after content (b ++ get_or buf 0 0 ∷ [])) → IsPassing first begun next after held kept i k
passing_on first now next begun line after held mid kept buf n i j k p s w l d f =
    let m = one_more first now begun line held mid kept buf n i j k p s w l d in
    record { used = m.used ++ get_or buf 0 0 ∷ []; draws = m.draws; at = λ content b h. comes_after (nexts.Around next) after content b m.used _ (f content (b ++ m.used) (m.at content b h)) }

pub passed_data : (left : ℕ) (first now : Framing) (begun line after held mid kept buf : List ℕ) (n : ℕ) (i j k : Intake) → IsPassing first begun now line held mid i j → 0 < n → n ≤ length buf → length buf ≡ 1 → Draws (take n buf) mid kept j k
    → ((content b : List ℕ) → IsAround now line content b → Comes (nexts.Data left) after content (b ++ get_or buf 0 0 ∷ [])) → Passes (passes.Data left) first begun after held kept i k
passed_data left first now begun line after held mid kept buf n i j k p s w l d f =
    let m = one_more first now begun line held mid kept buf n i j k p s w l d in
    (m.used ++ get_or buf 0 0 ∷ [], m.draws, (λ content b h. comes_after (nexts.Data left) after content b m.used _ (f content (b ++ m.used) (m.at content b h))))

pub passed_whole : (first now : Framing) (begun line after held mid kept buf : List ℕ) (n : ℕ) (i j k : Intake) → IsPassing first begun now line held mid i j → 0 < n → n ≤ length buf → length buf ≡ 1 → Draws (take n buf) mid kept j k
    → ((content b : List ℕ) → IsAround now line content b → Comes nexts.Whole after content (b ++ get_or buf 0 0 ∷ [])) → Passes passes.Whole first begun after held kept i k
passed_whole first now begun line after held mid kept buf n i j k p s w l d f =
    let m = one_more first now begun line held mid kept buf n i j k p s w l d in
    (m.used ++ get_or buf 0 0 ∷ [], m.draws, (λ content b h. comes_after nexts.Whole after content b m.used _ (f content (b ++ m.used) (m.at content b h))))

pub passed_against : (first now : Framing) (begun line after held mid kept buf : List ℕ) (n : ℕ) (i j k : Intake) → IsPassing first begun now line held mid i j → 0 < n → n ≤ length buf → length buf ≡ 1 → Draws (take n buf) mid kept j k
    → ((content b : List ℕ) → IsAround now line content b → Comes nexts.Against after content (b ++ get_or buf 0 0 ∷ [])) → Passes passes.Against first begun after held kept i k
passed_against first now begun line after held mid kept buf n i j k p s w l d f =
    let m = one_more first now begun line held mid kept buf n i j k p s w l d in
    (m.used ++ get_or buf 0 0 ∷ [], m.draws, (λ content b h. comes_after nexts.Against after content b m.used _ (f content (b ++ m.used) (m.at content b h))))

pub passed_torn : (first now : Framing) (begun line held mid kept : List ℕ) (i j k : Intake) → IsPassing first begun now line held mid i j → DrawsToEnd [] mid kept j k → Passes (passes.Torn now) first begun line held kept i k
passed_torn first now begun line held mid kept i j k p d =
    (p.used, subst (λ z. DrawsToEnd z held kept i k) (append-nil p.used) (draws_end p.used [] held mid kept i j k p.draws d), p.at)

pub passed_failed : (first now : Framing) (begun line held mid kept : List ℕ) (i j k : Intake) → IsPassing first begun now line held mid i j → DrawsAndFails [] mid kept j k → Passes (passes.Failed now) first begun line held kept i k
passed_failed first now begun line held mid kept i j k p d =
    (p.used, subst (λ z. DrawsAndFails z held kept i k) (append-nil p.used) (draws_fail p.used [] held mid kept i j k p.draws d), p.at)
