-- What a buffer before a sink makes of the bytes that are put into it.
use Rattle.std.specs.Prelude.{◌≡◌, ℕ, Bool, true, false, List, ◌++◌, Result, Ok, Err}
use Rattle.braid_io.specs.Outside.{Outflow, WritesAll, WritesPart}
use Rattle.braid_io.specs.declared.sink.WriteEnd.{WriteEnd}
use Rattle.braid_io.specs.declared.sink.WriteEnd.TheVariants.{WriteFault}

-- what waits in a buffer, whether a write has failed, and what the sink tells
pub record BufferView : Type 0 where
  pub held : List ℕ
  pub failed : Bool
  pub outflow : Outflow

-- of the bytes held and those put behind them a front was written, and the rest waits
pub record HasPut (bytes held kept : List ℕ) (old new : Outflow) : Type 0 where
  pub went : List ℕ
  pub whole : held ++ bytes ≡ went ++ kept
  pub written : WritesAll went old new

-- these bytes were put: a front of all was written and the rest waits, or a write failed and a front was written;
-- where one failed before, nothing changes
abbrev pub PutsBy : Bool → Bool → List ℕ → BufferView → BufferView → Type 0
PutsBy true failed bytes old new = new ≡ old
PutsBy false false bytes old new = HasPut bytes old.held new.held old.outflow new.outflow
PutsBy false true bytes old new = WritesPart (old.held ++ bytes) old.outflow new.outflow

abbrev pub Puts : List ℕ → BufferView → BufferView → Type 0
Puts bytes old new = PutsBy old.failed new.failed bytes old new

-- all of these bytes were written, or a front of them, where the sink's count of faults rose
abbrev pub IsWritten : Result Unit WriteEnd → List ℕ → Outflow → Outflow → Type 0
IsWritten (Ok u) bytes old new = WritesAll bytes old new
IsWritten (Err end) bytes old new = (end ≡ WriteFault) × WritesPart bytes old new
