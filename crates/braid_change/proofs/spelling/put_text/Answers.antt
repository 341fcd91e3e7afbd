use Rattle.std.proofs.Common.{◌≤◌, ◌-◌, ap, arith, length, take, drop, encode_utf8_all}
use Rattle.std.proofs.lemmas.List.{take_rest}
use Rattle.braid_change.proofs.Outlets.{along}
use Rattle.braid_change.proofs.Written.{encoded_further}
use Rattle.braid_change.proofs.spelling.put_text.Goals as goal

pub loop-done-preserved : goal.loop-done-preserved
loop-done-preserved g c =
    let xs = c.chars-chars.result.now in
    let i = c.loop-done.done in
    let n = c.put_front-done.result in
    let within : n ≤ length (take (length xs - i) (drop i xs)) = c.put_front-done.ensures.within in
    let piece = along g.O.Outlet.puts _ _ _ _ (ap (λ t. encode_utf8_all (take n t)) (take_rest xs i)) c.put_front-done.ensures.puts in
    record {
      within = omega (arith, within, ap length (take_rest xs i));
      puts = along g.O.Outlet.puts _ _ _ _ (encoded_further xs i n) (g.met.O.Outlet.more _ _ _ _ _ c.loop-done.invariant.puts piece);
    }
