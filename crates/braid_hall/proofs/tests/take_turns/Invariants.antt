use Rattle.braid_hall.specs.Many.{KeepsPass}
use Rattle.braid_hall.proofs.tests.take_turns.Given as goal

abbrev pub invariant-loop-turn : goal.invariant-loop-turn
invariant-loop-turn g l = KeepsPass l.initial.pass l.pass
