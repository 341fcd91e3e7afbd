use Rattle.braid_store.specs.Cursors.{IsFit}
use Rattle.braid_drill.proofs.digest.learn_all.Given as goal

abbrev pub invariant-loop-n : goal.invariant-loop-n
invariant-loop-n l = IsFit l.book l.cursor
