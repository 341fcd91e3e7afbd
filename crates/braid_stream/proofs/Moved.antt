-- Reads in a row.
use Rattle.std.proofs.Common.{◌≡◌, ℕ, List, [], ◌++◌, Option, Some, None, refl, ap, sym, ◌∙◌, append_assoc, append-nil, arith}
use Rattle.std.specs.Io.KnownBytes.{append_known, prepend_known}
use Rattle.braid_io.specs.Outside.{Intake, Moves}
use Rattle.braid_io.proofs.Known.{append_known-append}
use Rattle.braid_stream.specs.Pieces.{GivesBytes, FailsBehind, EndsBehind}

pub append_known-nil : (known : Option (List ℕ)) → append_known known [] ≡ known
append_known-nil None = refl
append_known-nil (Some xs) = ap Some (append-nil xs)

pub prepend_known-nil : (known : Option (List ℕ)) → prepend_known [] known ≡ known
prepend_known-nil None = refl
prepend_known-nil (Some xs) = refl

prepend_known-append : (known : Option (List ℕ)) (xs ys : List ℕ) → prepend_known xs (prepend_known ys known) ≡ prepend_known (xs ++ ys) known
prepend_known-append None xs ys = refl
prepend_known-append (Some zs) xs ys = ap Some (sym (append_assoc xs ys zs))

pub moves_none : (a : Intake) → Moves [] a a
moves_none a = record { taken = sym (append_known-nil a.taken); left = sym (prepend_known-nil a.left); faults = refl }

pub moves_more : (xs ys : List ℕ) (a b c : Intake) → Moves xs a b → Moves ys b c → Moves (xs ++ ys) a c
moves_more xs ys a b c m n =
    record {
      taken = n.taken ∙ ap (λ k. append_known k ys) m.taken ∙ append_known-append a.taken xs ys;
      left = m.left ∙ ap (prepend_known xs) n.left ∙ prepend_known-append c.left xs ys;
      faults = n.faults ∙ m.faults;
    }

pub fails_more : (xs ys : List ℕ) (a b c : Intake) → Moves xs a b → FailsBehind ys b c → FailsBehind (xs ++ ys) a c
fails_more xs ys a b c m n =
    record {
      gives = record {
        taken = n.gives.taken ∙ ap (λ k. append_known k ys) m.taken ∙ append_known-append a.taken xs ys;
        left = m.left ∙ ap (prepend_known xs) n.gives.left ∙ prepend_known-append c.left xs ys;
        never_falls = omega (arith, m.faults, n.gives.never_falls);
      };
      rose = rw (← m.faults) n.rose;
    }

pub ends_more : (xs ys : List ℕ) (a b c : Intake) → Moves xs a b → EndsBehind ys b c → EndsBehind (xs ++ ys) a c
ends_more xs ys a b c m n = record { moves = moves_more xs ys a b c m n.moves; nothing_left = n.nothing_left }

pub moves_gives : (bytes : List ℕ) (a b : Intake) → Moves bytes a b → GivesBytes bytes a b
moves_gives bytes a b m = record { taken = m.taken; left = m.left; never_falls = omega (arith, m.faults) }
