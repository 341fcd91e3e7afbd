use Rattle.std.proofs.Common.{◌≡◌, ◌-◌, ◌≤◌, ◌++◌, length, take, encode_utf8_all}
use Rattle.braid_change.proofs.text.Text.push_to.Given as goal

abbrev pub invariant-loop-done : goal.invariant-loop-done
invariant-loop-done l = record {
  within : l.done ≤ length l.chars;
  out : l.out ≡ l.fn.out ++ encode_utf8_all (take l.done l.chars);
}

abbrev pub decreases-loop-done : goal.decreases-loop-done
decreases-loop-done l = length l.chars - l.done
