-- Words on lists of bytes that several formats share.
use Rattle.std.specs.Prelude.{◌≢◌, ℕ, List, [], ◌∷◌}

-- no byte of the list is this one
abbrev pub Lacks : ℕ → List ℕ → Type 0
Lacks byte [] = Unit {0}
Lacks byte (x ∷ xs) = (x ≢ byte) × Lacks byte xs
