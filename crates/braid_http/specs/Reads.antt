-- What a read does to the bytes that a wire holds.
use Rattle.std.specs.Prelude.{◌≡◌, ◌≢◌, ℕ, ◌≤◌, List, [], ◌++◌}
use Rattle.std.specs.Io.KnownBytes.{IsAtEnd}
use Rattle.braid_io.specs.Outside.{Intake, Moves, Rose}
use Rattle.braid_http.specs.declared.held.More.{More}
use Rattle.braid_http.specs.declared.held.More.TheVariants.{Got, End, Failed, Memory}

-- a piece was read onto the bytes held; or the source has ended, the read failed or there was no memory, and they stay
abbrev pub Grows : More → List ℕ → List ℕ → Intake → Intake → Type 0
Grows Got held kept old new = (piece : List ℕ) × (piece ≢ []) × (kept ≡ held ++ piece) × Moves piece old new
Grows End held kept old new = (kept ≡ held) × (new ≡ old) × IsAtEnd old.left
Grows Failed held kept old new =
    (kept ≡ held) × (new.taken ≡ old.taken) × (new.left ≡ old.left) × (old.faults ≤ new.faults)
    × Rose old.faults new.faults
Grows Memory held kept old new = (kept ≡ held) × (new ≡ old)
