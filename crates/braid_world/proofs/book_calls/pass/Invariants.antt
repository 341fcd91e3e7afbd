use Rattle.braid_world.proofs.Nth.{HasPassed}
use Rattle.braid_world.proofs.book_calls.pass.Given as goal

abbrev pub invariant-loop : goal.invariant-loop
invariant-loop l = HasPassed l.book l.initial.cursor l.counter l.cursor
