use Rattle.std.proofs.Common.{sym, arith}
use Rattle.braid_change.proofs.Outlets.{along}
use Rattle.braid_fields.proofs.Hexadecimal.{hex_one, hex_step}
use Rattle.braid_stream.proofs.stream_writer.+put_size.Goals as goal

pub returns-then-n-lt16 : goal.returns-then-n-lt16
returns-then-n-lt16 g t c = record { puts = along g.O.Outlet.puts _ _ _ _ (sym (hex_one c.args.n c.if-n-lt16.true)) c.put_digit.ensures.puts }

pub returns-else-n-lt16 : goal.returns-else-n-lt16
returns-else-n-lt16 g t c = record {
  puts = along g.O.Outlet.puts _ _ _ _ (sym (hex_step c.args.n c.if-n-lt16.false (omega arith))) (g.met.O.Outlet.more _ _ _ _ _ c.put_size.ensures.puts c.put_digit-else-n-lt16.ensures.puts);
}
