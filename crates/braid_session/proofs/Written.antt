-- What was written where a call of a stream's writer is all that was done.
use Rattle.std.proofs.Common.{ℕ, List, Result, Ok, Err}
use Rattle.std.specs.Prelude.{OnOk, OnErr}
use Rattle.braid_io.specs.Outside.{Outflow, WritesAll, WritesPart}
use Rattle.braid_io.specs.declared.sink.WriteEnd.{WriteEnd}
use Rattle.braid_frame.specs.Buffers.{IsWritten}

pub all_where_ok : (r : Result Unit WriteEnd) (bytes : List ℕ) (old new : Outflow) → IsWritten r bytes old new → OnOk r (WritesAll bytes old new)
all_where_ok (Ok u) bytes old new w = w
all_where_ok (Err end) bytes old new w = tt

pub part_where_not : (r : Result Unit WriteEnd) (bytes : List ℕ) (old new : Outflow) → IsWritten r bytes old new → OnErr r (WritesPart bytes old new)
part_where_not (Ok u) bytes old new w = tt
part_where_not (Err end) bytes old new w = w.1
