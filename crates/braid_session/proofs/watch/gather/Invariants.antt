use Rattle.std.proofs.Common.{◌-◌, length}
use Rattle.braid_store.specs.Books.{of_path}
use Rattle.braid_session.proofs.Gathering.{Gathers}
use Rattle.braid_session.proofs.watch.gather.Given as goal

abbrev pub invariant-gathering : goal.invariant-gathering
invariant-gathering l = Gathers l.book l.fn.cursor l.cursor l.updates.items

abbrev pub decreases-gathering : goal.decreases-gathering
decreases-gathering l = length (of_path l.book l.fn.cursor.path) - l.cursor.passed
