-- Bytes that a source gives piece by piece.
use Rattle.std.specs.Prelude.{◌≡◌, ℕ, ◌<◌, ◌≤◌, List, [], length, take}
use Rattle.std.specs.Io.KnownBytes.{append_known, prepend_known, IsAtEnd}
use Rattle.braid_io.specs.declared.source.Read.{Read}
use Rattle.braid_io.specs.declared.source.Read.TheVariants.{Got, End, Failed}
use Rattle.braid_io.specs.Outside.{Intake, Moves, Rose}

-- a source gave these bytes, whether or not it then failed
pub record GivesBytes (bytes : List ℕ) (before after : Intake) : Type 0 where
  pub taken : after.taken ≡ append_known before.taken bytes
  pub left : before.left ≡ prepend_known bytes after.left
  pub never_falls : before.faults ≤ after.faults

-- a source gave these bytes and then failed, where its count of faults rose
pub record FailsBehind (bytes : List ℕ) (before after : Intake) : Type 0 where
  pub gives : GivesBytes bytes before after
  pub rose : Rose before.faults after.faults

-- a source gave these bytes and then ended: nothing is left of it
pub record EndsBehind (bytes : List ℕ) (before after : Intake) : Type 0 where
  pub moves : Moves bytes before after
  pub nothing_left : IsAtEnd after.left

-- one read of at most so many bytes: they stand at the buffer's front; or the source ended, or failed
abbrev pub ReadsFront : Read → List ℕ → ℕ → Intake → Intake → Type 0
ReadsFront (Got n) buffer most before after = (0 < n) × (n ≤ length buffer) × (n ≤ most)
    × Moves (take n buffer) before after
ReadsFront End buffer most before after = (after ≡ before) × IsAtEnd before.left
ReadsFront Failed buffer most before after = FailsBehind [] before after

-- one read of at most so many bytes, which are then held; where none came, none are held
abbrev pub Fills : Read → List ℕ → ℕ → Intake → Intake → Type 0
Fills (Got n) held most before after = (0 < n) × (n ≤ most) × (length held ≡ n) × Moves held before after
Fills End held most before after = (held ≡ []) × (after ≡ before) × IsAtEnd before.left
Fills Failed held most before after = (held ≡ []) × FailsBehind [] before after
