-- What reads and writes do to what a source and a sink tell, and to their counts of faults.
use Rattle.std.specs.Prelude.{◌≡◌, ◌≢◌, ℕ, ◌+◌, ◌-◌, ◌^◌, ◌<◌, ◌≤◌, ◌⊎◌, min, List, [], ◌∷◌, length, take, ⊤, Option, Some, None, ◌++◌}
use Rattle.std.specs.Option.{option_map}
use Rattle.std.specs.Io.KnownBytes.{append_known, prepend_known, IsAtEnd}
use Rattle.braid_io.specs.declared.source.Read.{Read}
use Rattle.braid_io.specs.declared.source.Read.TheVariants.{Got, End, Failed}
use Rattle.braid_io.specs.declared.sink.Wrote.{Wrote}
use Rattle.braid_io.specs.declared.sink.Wrote.TheVariants.{Took, Failed as NotTaken}

-- What a source tells: the bytes that it has given and those that it has left, each None where it does not tell
-- them, and its count of faults.
pub record Intake : Type 0 where
  pub taken : Option (List ℕ)
  pub left : Option (List ℕ)
  pub faults : ℕ

-- What a sink tells: the bytes that it has taken, None where it does not tell them, and its count of faults.
pub record Outflow : Type 0 where
  pub written : Option (List ℕ)
  pub faults : ℕ

-- A source that tells no bytes and had no fault.
abbrev pub no_intake : Intake
no_intake = record { taken = None; left = None; faults = 0 }

-- A sink that tells no bytes and had no fault.
abbrev pub no_outflow : Outflow
no_outflow = record { written = None; faults = 0 }

-- A count of faults rose; one that stands at its type's end counts as one that rose.
abbrev pub Rose : ℕ → ℕ → Type 0
Rose old new = (old < new) ⊎ (new ≡ 2 ^ 64 - 1)

-- A count that rises by one, or stays at its type's end.
abbrev pub next_count : ℕ → ℕ
next_count n = min (n + 1) (2 ^ 64 - 1)

-- Two counts together, or their type's end.
abbrev pub joint_count : ℕ → ℕ → ℕ
joint_count n m = min (n + m) (2 ^ 64 - 1)

-- A number of things that are left is told or not; where it is told, one is left.
abbrev pub HasOne : Option ℕ → Type 0
HasOne None = ⊤
HasOne (Some n) = 0 < n

-- Where the number is told, none is left.
abbrev pub HasNone : Option ℕ → Type 0
HasNone None = ⊤
HasNone (Some n) = n ≡ 0

-- One more, where the number is told.
abbrev pub one_more : Option ℕ → Option ℕ
one_more = option_map (λ n. n + 1)

-- One fewer, where the number is told.
abbrev pub one_fewer : Option ℕ → Option ℕ
one_fewer = option_map (λ n. n - 1)

-- A list is told or not; where it is told, this one stands at its end.
abbrev pub with_last : {A : Type 0} → Option (List A) → A → Option (List A)
with_last told x = option_map (λ xs. xs ++ x ∷ []) told

-- Where the list is told, it is empty.
abbrev pub IsBlank : {A : Type 0} → Option (List A) → Type 0
IsBlank None = ⊤
IsBlank (Some xs) = xs ≡ []

-- Where the list is told, it is not empty.
abbrev pub IsFilled : {A : Type 0} → Option (List A) → Type 0
IsFilled None = ⊤
IsFilled (Some xs) = 0 < length xs

-- A new link: it has given nothing and taken nothing, where it tells that, and had no fault.
pub record IsNewLink (intake : Intake) (outflow : Outflow) : Type 0 where
  pub taken : IsBlank intake.taken
  pub written : IsBlank outflow.written
  pub read_faults : intake.faults ≡ 0
  pub write_faults : outflow.faults ≡ 0

-- A source gave these bytes: they went from the front of what was left to the end of what was taken.
pub record Moves (bytes : List ℕ) (old new : Intake) : Type 0 where
  pub taken : new.taken ≡ append_known old.taken bytes
  pub left : old.left ≡ prepend_known bytes new.left
  pub faults : new.faults ≡ old.faults

-- One read: it gives at least one byte, at the front of the buffer; or it ends, only where nothing is left; or it
-- fails, where the count of faults rises and no byte moves.
abbrev pub Reads : Read → List ℕ → Intake → Intake → Type 0
Reads (Got n) buf old new = (0 < n) × (n ≤ length buf) × Moves (take n buf) old new
Reads End buf old new = (new ≡ old) × IsAtEnd old.left
Reads Failed buf old new = (new.taken ≡ old.taken) × (new.left ≡ old.left) × (old.faults ≤ new.faults)
    × Rose old.faults new.faults

-- A sink took all of these bytes: they stand at the end of what was written, and the count of faults stayed.
pub record WritesAll (bytes : List ℕ) (old new : Outflow) : Type 0 where
  pub written : new.written ≡ append_known old.written bytes
  pub faults : new.faults ≡ old.faults

-- A sink took the first of these bytes and not all of them, and its count of faults rose.
pub record WritesPart (bytes : List ℕ) (old new : Outflow) : Type 0 where
  pub front : List ℕ
  pub rest : List ℕ
  pub whole : bytes ≡ front ++ rest
  pub unfinished : rest ≢ []
  pub written : new.written ≡ append_known old.written front
  pub never_falls : old.faults ≤ new.faults
  pub rose : Rose old.faults new.faults

-- One write: it takes at least one byte, from the front of the piece; or it fails, where the count of faults rises
-- and no byte is taken.
abbrev pub Writes : Wrote → List ℕ → Outflow → Outflow → Type 0
Writes (Took n) piece old new = (0 < n) × (n ≤ length piece) × WritesAll (take n piece) old new
Writes NotTaken piece old new = (new.written ≡ old.written) × (old.faults ≤ new.faults) × Rose old.faults new.faults
