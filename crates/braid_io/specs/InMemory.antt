-- The forms in memory, as their contracts see them, and exactly what one call of each does.
use Rattle.std.specs.Prelude.{◌≡◌, ℕ, ◌-◌, ◌<◌, ◌⊎◌, min, List, [], ◌++◌, length, take, drop, Some}
use Rattle.std.specs.List.{Contains}
use Rattle.braid_io.specs.declared.source.Read.{Read}
use Rattle.braid_io.specs.declared.source.Read.TheVariants.{Got, End, Failed}
use Rattle.braid_io.specs.declared.sink.Wrote.{Wrote}
use Rattle.braid_io.specs.declared.sink.Wrote.TheVariants.{Took, Failed as NotTaken}
use Rattle.braid_io.specs.Outside.{Intake, Outflow, next_count}

-- A source in memory: the bytes given and left, the most that one read gives, the numbers of the calls that fail,
-- the number of the next call, and the count of faults.
pub record MemIntake : Type 0 where
  pub taken : List ℕ
  pub left : List ℕ
  pub piece : ℕ
  pub fails : List ℕ
  pub calls : ℕ
  pub faults : ℕ

-- What a source in memory tells: all of it.
abbrev pub intake_of : MemIntake → Intake
intake_of s = record { taken = Some s.taken; left = Some s.left; faults = s.faults }

-- A source that never fails: the bytes given and left.
pub record PureIntake : Type 0 where
  pub taken : List ℕ
  pub left : List ℕ

-- What a source that never fails tells: all of it, and no fault.
abbrev pub pure_intake : PureIntake → Intake
pure_intake s = record { taken = Some s.taken; left = Some s.left; faults = 0 }

-- A sink in memory: the bytes taken, the room left in bytes, the numbers of the calls that fail, the number of the
-- next call, and the count of faults.
pub record MemOutflow : Type 0 where
  pub written : List ℕ
  pub room : ℕ
  pub fails : List ℕ
  pub calls : ℕ
  pub faults : ℕ

-- What a sink in memory tells: all of it.
abbrev pub outflow_of : MemOutflow → Outflow
outflow_of s = record { written = Some s.written; faults = s.faults }

-- A read gives the first n bytes of what is left: as many as the piece and the buffer allow.
pub record Gives (n : ℕ) (buf : List ℕ) (old new : MemIntake) : Type 0 where
  pub some : 0 < length old.left
  pub count : n ≡ min (min old.piece (length old.left)) (length buf)
  pub bytes : take n buf ≡ take n old.left
  pub moved : new
      ≡ record old { taken = old.taken ++ take n old.left; left = drop n old.left; calls = next_count old.calls }

-- One read of a source in memory. It fails exactly where its number is listed, and then only the counts change.
-- Else it ends exactly where nothing is left, and gives the next piece where something is.
abbrev pub MemReads : Read → List ℕ → MemIntake → MemIntake → Type 0
MemReads Failed buf old new = Contains old.fails old.calls
    × (new ≡ record old { calls = next_count old.calls; faults = next_count old.faults })
MemReads End buf old new = ¬ Contains old.fails old.calls × (old.left ≡ [])
    × (new ≡ record old { calls = next_count old.calls })
MemReads (Got n) buf old new = ¬ Contains old.fails old.calls × Gives n buf old new

-- A read gives the first n bytes of what is left: as many as the buffer takes.
pub record GivesFront (n : ℕ) (buf : List ℕ) (old new : PureIntake) : Type 0 where
  pub some : 0 < length old.left
  pub count : n ≡ min (length old.left) (length buf)
  pub bytes : take n buf ≡ take n old.left
  pub moved : new ≡ record { taken = old.taken ++ take n old.left; left = drop n old.left }

-- One read of a source that never fails. It ends exactly where nothing is left, and gives the next bytes where
-- something is.
abbrev pub PureReads : Read → List ℕ → PureIntake → PureIntake → Type 0
PureReads Failed buf old new = ⊥
PureReads End buf old new = (old.left ≡ []) × (new ≡ old)
PureReads (Got n) buf old new = GivesFront n buf old new

-- A write takes the first n bytes of the piece: as many as the room allows.
pub record Takes (n : ℕ) (piece : List ℕ) (old new : MemOutflow) : Type 0 where
  pub some : 0 < old.room
  pub count : n ≡ min (length piece) old.room
  pub moved : new
      ≡ record old { written = old.written ++ take n piece; room = old.room - n; calls = next_count old.calls }

-- One write to a sink in memory. It fails exactly where its number is listed or no room is left, and then only the
-- counts change. Else it takes what it has room for.
abbrev pub MemWrites : Wrote → List ℕ → MemOutflow → MemOutflow → Type 0
MemWrites NotTaken piece old new = (Contains old.fails old.calls ⊎ (old.room ≡ 0))
    × (new ≡ record old { calls = next_count old.calls; faults = next_count old.faults })
MemWrites (Took n) piece old new = ¬ Contains old.fails old.calls × Takes n piece old new

-- A link in memory: the bytes given and left, the most that one read gives, the bytes taken, the room left in bytes,
-- the numbers of the calls that fail, the number of the next call, and the counts of failed reads and failed writes.
pub record MemTalk : Type 0 where
  pub taken : List ℕ
  pub left : List ℕ
  pub piece : ℕ
  pub written : List ℕ
  pub room : ℕ
  pub fails : List ℕ
  pub calls : ℕ
  pub read_faults : ℕ
  pub write_faults : ℕ

-- The source's side of a link in memory.
abbrev pub source_side : MemTalk → MemIntake
source_side s =
    record { taken = s.taken; left = s.left; piece = s.piece; fails = s.fails; calls = s.calls; faults = s.read_faults }

-- The sink's side of a link in memory.
abbrev pub sink_side : MemTalk → MemOutflow
sink_side s = record { written = s.written; room = s.room; fails = s.fails; calls = s.calls; faults = s.write_faults }

-- What a link in memory tells of what it gave: all of it.
abbrev pub talk_intake : MemTalk → Intake
talk_intake s = record { taken = Some s.taken; left = Some s.left; faults = s.read_faults }

-- What a link in memory tells of what it took: all of it.
abbrev pub talk_outflow : MemTalk → Outflow
talk_outflow s = record { written = Some s.written; faults = s.write_faults }

-- One read of a link in memory: that of a source in memory whose calls are numbered with the writes.
pub record LinkReads (answer : Read) (buf : List ℕ) (old new : MemTalk) : Type 0 where
  pub reads : MemReads answer buf (source_side old) (source_side new)
  pub written : new.written ≡ old.written
  pub room : new.room ≡ old.room
  pub write_faults : new.write_faults ≡ old.write_faults

-- One write to a link in memory: that to a sink in memory whose calls are numbered with the reads.
pub record LinkWrites (answer : Wrote) (piece : List ℕ) (old new : MemTalk) : Type 0 where
  pub writes : MemWrites answer piece (sink_side old) (sink_side new)
  pub taken : new.taken ≡ old.taken
  pub left : new.left ≡ old.left
  pub piece_is : new.piece ≡ old.piece
  pub read_faults : new.read_faults ≡ old.read_faults
