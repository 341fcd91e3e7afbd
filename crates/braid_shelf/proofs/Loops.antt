-- Steps as long as what is left passes a test.
use Rattle.std.proofs.Common.{◌≡◌, ℕ, zero, suc, ◌<◌, ◌≤◌, Bool, true, false, cond, List, [], ◌∷◌, length, refl, sym, ◌∙◌, arith}
use Rattle.braid_shelf.specs.declared.fault.ShelfKind.{ShelfKind}
use Rattle.braid_shelf.specs.Reading.{Outcome, Read, Bad, then_read, while_read}

-- steps take bytes, and none is taken where nothing is left
pub record Shrinks {S : Type 0} (test : List ℕ → Bool) (step : S → List ℕ → Outcome S) : Type 0 where
  pub empty : test [] ≡ false
  pub takes : (s t : S) (bytes rest : List ℕ) → test bytes ≡ true → step s bytes ≡ Read t rest → length rest < length bytes

enough : {S : Type 0} (test : List ℕ → Bool) (step : S → List ℕ → Outcome S) → Shrinks test step → (n m : ℕ) (s : S) (bytes : List ℕ) → length bytes ≤ n → length bytes ≤ m
    → while_read test step n s bytes ≡ while_read test step m s bytes
enough test step shrinks zero zero s bytes h k = refl
enough test step shrinks zero (suc m) s [] h k = rw shrinks.empty refl
enough test step shrinks zero (suc m) s (b ∷ bytes) h k = absurd (omega arith)
enough test step shrinks (suc n) zero s [] h k = rw shrinks.empty refl
enough test step shrinks (suc n) zero s (b ∷ bytes) h k = absurd (omega arith)
enough {S} test step shrinks (suc n) (suc m) s bytes h k =
    go (test bytes) refl (step s bytes) refl (λ t rest lt. enough test step shrinks n m t rest (omega arith) (omega arith))
  where
    go : (b : Bool) → test bytes ≡ b → (o : Outcome S) → step s bytes ≡ o → ((t : S) (rest : List ℕ) → length rest < length bytes → while_read test step n t rest ≡ while_read test step m t rest)
        → cond b (then_read o (while_read test step n)) (Read s bytes) ≡ cond b (then_read o (while_read test step m)) (Read s bytes)
    go true e (Read t rest) f later = later t rest (shrinks.takes s t bytes rest e f)
    go true e (Bad left kind) f later = refl
    go false e o f later = refl

pub steps_on : {S : Type 0} (test : List ℕ → Bool) (step : S → List ℕ → Outcome S) → Shrinks test step → (s t : S) (bytes rest : List ℕ) → test bytes ≡ true → step s bytes ≡ Read t rest
    → while_read test step (length bytes) s bytes ≡ while_read test step (length rest) t rest
steps_on test step shrinks s t [] rest e f = absurd (no (sym shrinks.empty ∙ e))
  where
    no : false ≡ true → ⊥
    no h = cc
steps_on test step shrinks s t (b ∷ bytes) rest e f =
    rw (e, f) (enough test step shrinks (length bytes) (length rest) t rest (let lt = shrinks.takes s t (b ∷ bytes) rest e f in omega arith) (omega arith))

pub steps_badly : {S : Type 0} (test : List ℕ → Bool) (step : S → List ℕ → Outcome S) → Shrinks test step → (s : S) (bytes : List ℕ) (left : ℕ) (kind : ShelfKind) → test bytes ≡ true → step s bytes ≡ Bad left kind
    → while_read test step (length bytes) s bytes ≡ Bad left kind
steps_badly test step shrinks s [] left kind e f = absurd (no (sym shrinks.empty ∙ e))
  where
    no : false ≡ true → ⊥
    no h = cc
steps_badly test step shrinks s (b ∷ bytes) left kind e f = rw (e, f) refl

pub stops_there : {S : Type 0} (test : List ℕ → Bool) (step : S → List ℕ → Outcome S) → (s : S) (bytes : List ℕ) → test bytes ≡ false → while_read test step (length bytes) s bytes ≡ Read s bytes
stops_there test step s [] e = refl
stops_there test step s (b ∷ bytes) e = rw e refl
