use Rattle.std.proofs.Common.{ap, false}
use Rattle.std.specs.Fmt.{digits}
use Rattle.braid_change.proofs.Outlets.{along}
use Rattle.braid_stream.proofs.stream_writer.put_chunk.Goals as goal

pub returns : goal.returns
returns g c =
    let m = g.met.O.Outlet.more in
    let size = along g.O.Outlet.puts _ _ _ _ (ap (digits 16 false) c.canon_len.ensures.len) c.put_size.ensures.puts in
    record { puts = m _ _ _ _ _ (m _ _ _ _ _ (m _ _ _ _ _ size c.put.ensures.put) c.spell.ensures.puts) c.put-2.ensures.put }
