use Rattle.std.proofs.Common.{◌≡◌, ◌≤◌, ◌++◌, List, length, vec_capacity}
use Rattle.braid_server.specs.declared.worker.Worker.{Worker}
use Rattle.braid_server.specs.Workers.{pairs_of, passes_of, worker_notes}
use Rattle.braid_server.proofs.workers.take_apart.Given as goal

-- the workers apart so far stood before those that are left
abbrev pub invariant-loop-n : goal.invariant-loop-n
invariant-loop-n g l =
    record {
      apart : List (Worker g.row.D.Denot g.row.L.Denot);
      whole : l.initial.workers_left.items ≡ apart ++ l.workers_left.items;
      many : length apart ≡ l._n;
      doors : l.doors.items ≡ pairs_of apart;
      passes : l.passes.items ≡ passes_of apart;
      notes : l.notes.items ≡ worker_notes apart;
      door_room : l.count ≤ vec_capacity l.doors;
      pass_room : l.count ≤ vec_capacity l.passes;
      note_room : l.count ≤ vec_capacity l.notes;
    }
