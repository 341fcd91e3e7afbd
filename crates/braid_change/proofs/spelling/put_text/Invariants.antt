use Rattle.std.proofs.Common.{◌-◌, ◌≤◌, length, take, encode_utf8_all}
use Rattle.braid_change.proofs.spelling.put_text.Given as goal

abbrev pub invariant-loop-done : goal.invariant-loop-done
invariant-loop-done g l = record {
  within : l.done ≤ length l.chars;
  puts : g.O.Outlet.puts (encode_utf8_all (take l.done l.chars)) l.fn.out l.out;
}

abbrev pub decreases-loop-done : goal.decreases-loop-done
decreases-loop-done g l = length l.chars - l.done
