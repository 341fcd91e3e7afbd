-- Known bytes that grow piece by piece.
use Rattle.std.proofs.Common.{◌≡◌, ℕ, List, ◌++◌, refl, ap, ◌∙◌, append_assoc, length, ◌-◌, take, drop, Option, Some, None, arith}
use Rattle.std.specs.Io.KnownBytes.{append_known}
use Rattle.std.proofs.lemmas.Grind.{common_steps}
use Rattle.braid_io.specs.Outside.{Outflow, WritesAll}

-- two pieces put at the end are one
pub append_known-append : (known : Option (List ℕ)) (xs ys : List ℕ) → append_known (append_known known xs) ys ≡ append_known known (xs ++ ys)
append_known-append None xs ys = refl
append_known-append (Some zs) xs ys = ap Some (append_assoc zs xs ys)

-- of these bytes the front is written, and the rest is not
pub record WritesFront (bytes rest : List ℕ) (old new : Outflow) : Type 0 where
  pub front : List ℕ
  pub whole : bytes ≡ front ++ rest
  pub written : new.written ≡ append_known old.written front
  pub faults : new.faults ≡ old.faults

-- a piece that is taken joins the front
pub front_more : (bytes rest : List ℕ) (n : ℕ) (a b c : Outflow) → WritesFront bytes rest a b → WritesAll (take n rest) b c → WritesFront bytes (take (length rest - n) (drop n rest)) a c
front_more bytes rest n a b c f w =
    record {
      front = f.front ++ take n rest;
      whole = grind (arith, common_steps, f.whole);
      written = w.written ∙ ap (λ known. append_known known (take n rest)) f.written ∙ append_known-append a.written f.front (take n rest);
      faults = w.faults ∙ f.faults;
    }
