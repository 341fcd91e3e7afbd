use Rattle.std.proofs.Common.{ap, decimal}
use Rattle.braid_change.proofs.Outlets.{along, exact_len}
use Rattle.braid_change.proofs.spelling.put_length.Goals as goal

pub returns : goal.returns
returns g c =
    let number = along g.O.Outlet.puts _ _ _ _ (ap decimal (exact_len _ _ c.utf8_len.ensures.len c.requires.short)) c.put_number.ensures.puts in
    record { puts = g.met.O.Outlet.more _ _ _ _ _ c.put.ensures.put number }
