-- The bytes of a body that have come and that a reader of updates takes.
use Rattle.std.specs.Prelude.{ℕ, List, [], ◌∷◌, ◌++◌, Some, None}
use Rattle.braid_io.specs.Outside.{Intake}

-- Bytes of a body that a reader has not taken yet, and how often a read found none.
pub record PieceView : Type 0 where
  pub left : List ℕ
  pub faults : ℕ

-- What a piece tells: its bytes, and one behind them that has not come, as it never ends.
abbrev pub piece_intake : PieceView → Intake
piece_intake p = record { taken = None; left = Some (p.left ++ 0 ∷ []); faults = p.faults }

-- what a source tells that has ended
abbrev pub nothing_left : Intake
nothing_left = record { taken = None; left = Some []; faults = 0 }
