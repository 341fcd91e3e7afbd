use Rattle.std.proofs.Common.{◌≡◌, ◌≤◌, ◌++◌, length, vec_capacity}
use Rattle.braid_server.specs.Workers.{pairs_of, passes_of}
use Rattle.braid_server.proofs.workers.make_workers.Given as goal

-- what was given and what is left are what there was
abbrev pub invariant-loop-n : goal.invariant-loop-n
invariant-loop-n g l =
    record {
      pairs : l.initial.pairs_left.items ≡ pairs_of l.workers.items ++ l.pairs_left.items;
      passes : l.initial.passes_left.items ≡ passes_of l.workers.items ++ l.passes_left.items;
      count : length l.workers.items ≡ l._n;
      room : l.count ≤ vec_capacity l.workers;
    }
