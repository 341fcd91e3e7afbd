use Rattle.std.proofs.Common.{◌≡◌, ◌≤◌, ◌*◌, take}
use Rattle.braid_server.specs.Workers.{sessions_of}
use Rattle.braid_server.proofs.print.sessions_of.Given as goal

abbrev pub invariant-loop-note : goal.invariant-loop-note
invariant-loop-note l = (l.count ≡ sessions_of (take l.note-index l.notes)) × (l.count ≤ l.note-index * 18446744073709551615)
