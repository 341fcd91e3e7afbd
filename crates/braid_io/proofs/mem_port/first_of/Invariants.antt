use Rattle.std.proofs.Common.{◌≡◌, ◌≤◌, ◌++◌, length, vec_capacity}
use Rattle.braid_io.proofs.mem_port.first_of.Given as goal

abbrev pub invariant-loop-n : goal.invariant-loop-n
invariant-loop-n g l =
    record {
      moved : l.fn.from.items ≡ l.first.items ++ l.from.items;
      count : length l.first.items ≡ l._n;
      room : l.count ≤ vec_capacity l.first;
    }
