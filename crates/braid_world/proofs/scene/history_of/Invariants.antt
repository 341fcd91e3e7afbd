use Rattle.braid_world.proofs.Scenes.{IsGiven}
use Rattle.braid_world.proofs.scene.history_of.Given as goal

abbrev pub invariant-loop : goal.invariant-loop
invariant-loop l = IsGiven l.book l.path l.updates.items l.cursor
