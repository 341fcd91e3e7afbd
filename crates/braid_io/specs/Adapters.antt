-- The adapters over std's reader and writer: what they tell, and what a call does to one that knows its bytes.
use Rattle.std.specs.Prelude.{ℕ, List, [], take, Option, None}
use Rattle.std.specs.Io.KnownBytes.{Consumes, Appends, Keeps, IsAtEnd}
use Rattle.braid_io.specs.declared.source.Read.{Read}
use Rattle.braid_io.specs.declared.source.Read.TheVariants.{Got, End, Failed}
use Rattle.braid_io.specs.declared.sink.Wrote.{Wrote}
use Rattle.braid_io.specs.declared.sink.Wrote.TheVariants.{Took, Failed as NotTaken}
use Rattle.braid_io.specs.declared.std_source.StdSource.{StdSource}
use Rattle.braid_io.specs.declared.std_sink.StdSink.{StdSink}
use Rattle.braid_io.specs.Outside.{Intake, Outflow}

-- What a source over a reader tells: its count of faults alone.
abbrev pub std_intake : {R : Type 0} → StdSource R → Intake
std_intake s = record { taken = None; left = None; faults = s.faults }

-- The reader under a source.
abbrev pub std_reader : {R : Type 0} → StdSource R → R
std_reader s = s.from

-- What a sink over a writer tells: its count of faults alone.
abbrev pub std_outflow : {W : Type 0} → StdSink W → Outflow
std_outflow s = record { written = None; faults = s.faults }

-- The writer under a sink.
abbrev pub std_writer : {W : Type 0} → StdSink W → W
std_writer s = s.to

-- One read of a reader that knows its bytes: the bytes got are its next ones, it ends only where none are left, and
-- a read that fails takes none. Of a reader that does not know them nothing is said.
abbrev pub ReaderGives : Read → List ℕ → Option (List ℕ) → Option (List ℕ) → Type 0
ReaderGives (Got n) buf old new = Consumes old new (take n buf)
ReaderGives End buf old new = Consumes old new [] × IsAtEnd new
ReaderGives Failed buf old new = Keeps old new

-- One write to a writer that knows its bytes: those taken stand at its end, and a write that fails leaves it as it
-- was. Of a writer that does not know them nothing is said.
abbrev pub WriterTakes : Wrote → List ℕ → Option (List ℕ) → Option (List ℕ) → Type 0
WriterTakes (Took n) piece old new = Appends old new (take n piece)
WriterTakes NotTaken piece old new = Keeps old new
