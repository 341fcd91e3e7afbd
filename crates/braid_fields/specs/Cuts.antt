-- What is left of bytes at whose end something is passed over.
use Rattle.std.specs.Prelude.{◌≡◌, ◌≢◌, ℕ, ◌⊎◌, false, List, [], ◌∷◌, ◌++◌}
use Rattle.braid_shelf.specs.ByteClasses.{Are, is_blank}
use Rattle.braid_fields.specs.Lines.{ends}

-- what stands before the spaces and tabs that bytes end with
pub record EndsInBlanks (bytes front : List ℕ) : Type 0 where
  pub blanks : List ℕ
  pub are_blank : Are is_blank blanks
  pub stops : ends is_blank front ≡ false
  pub cut : bytes ≡ front ++ blanks

-- what stands before the one CR that bytes end with, or all of bytes that end with none
abbrev pub CutsEnd : List ℕ → List ℕ → Type 0
CutsEnd line content = (line ≡ content ++ 13 ∷ []) ⊎ ((line ≡ content) × ((front : List ℕ) → line ≢ front ++ 13 ∷ []))
