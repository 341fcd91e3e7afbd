-- Bytes that are taken off a connection: those held first, and then those that its link gives.
use Rattle.std.specs.Prelude.{◌≡◌, ℕ, ◌<◌, ◌≤◌, ◌⊎◌, List, [], ◌++◌, length, take}
use Rattle.braid_ids.specs.Lists.{Lacks}
use Rattle.std.specs.Io.KnownBytes.{append_known, prepend_known, IsAtEnd}
use Rattle.braid_io.specs.Outside.{Intake, Moves, Rose}
use Rattle.braid_io.specs.declared.source.Read.{Read}
use Rattle.braid_io.specs.declared.source.Read.TheVariants.{Got, End, Failed}

-- These bytes were taken off the front of those held and those that the link gave, and the others are kept. Where the
-- link gave some, none is left over.
pub record Draws (used held kept : List ℕ) (old new : Intake) : Type 0 where
  pub got : List ℕ
  pub moves : Moves got old new
  pub whole : held ++ got ≡ used ++ kept
  pub exact : (got ≡ []) ⊎ (kept ≡ [])

-- the same, and then the source had ended: nothing is left to be taken
pub record DrawsToEnd (used held kept : List ℕ) (old new : Intake) : Type 0 where
  pub draws : Draws used held kept old new
  pub none : kept ≡ []
  pub at_end : IsAtEnd new.left

-- bytes were taken, all that were there, and then a read failed
pub record DrawsAndFails (used held kept : List ℕ) (old new : Intake) : Type 0 where
  pub got : List ℕ
  pub taken : new.taken ≡ append_known old.taken got
  pub left : old.left ≡ prepend_known got new.left
  pub never_falls : old.faults ≤ new.faults
  pub rose : Rose old.faults new.faults
  pub whole : held ++ got ≡ used ++ kept
  pub none : kept ≡ []

-- the next bytes of a connection, in the front of a buffer; or none, as the source has ended or the read failed
abbrev pub DrawsBytes : Read → List ℕ → List ℕ → List ℕ → Intake → Intake → Type 0
DrawsBytes (Got n) buf held kept old new = (0 < n) × (n ≤ length buf) × Draws (take n buf) held kept old new
DrawsBytes End buf held kept old new = DrawsToEnd [] held kept old new
DrawsBytes Failed buf held kept old new = DrawsAndFails [] held kept old new

-- a chunk line that has come in part: fewer than 256 bytes without a LF
pub record IsLineBegun (begun : List ℕ) : Type 0 where
  pub short : length begun < 256
  pub lacks : Lacks 10 begun
