-- Lines that are written piece by piece.
use Rattle.std.proofs.Common.{◌≡◌, ◌∙◌, ◌++◌, List, ℕ, ap}

-- one more piece behind those that were written
pub behind : (old new whole piece : List ℕ) → old ≡ whole → new ≡ old ++ piece → new ≡ whole ++ piece
behind old new whole piece o n = n ∙ ap (λ (t : List ℕ). t ++ piece) o
