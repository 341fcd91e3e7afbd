use Rattle.std.proofs.Common.{◌≡◌, take}
use Rattle.braid_server.specs.Runs.{status_of}
use Rattle.braid_server.proofs.print.status_of.Given as goal

abbrev pub invariant-loop-note : goal.invariant-loop-note
invariant-loop-note l = l.status ≡ status_of (take l.note-index l.notes)
