use Rattle.std.proofs.Common.{◌≡◌, List, ◌++◌}
use Rattle.braid_hall.specs.Passes.{PassView}
use Rattle.braid_hall.specs.Many.{AreAway, JoinsAll}
use Rattle.braid_hall.proofs.many.join_all.Given as goal

-- the passes that were joined stood behind those that are left
abbrev pub invariant-loop-pass : goal.invariant-loop-pass
invariant-loop-pass g l = (popped : List (PassView g.row.B-Entry.Denot)) × (l.initial.passes.items ≡ l.passes.items ++ popped) × JoinsAll l.initial.root popped l.root × AreAway l.hall l.root l.passes.items

abbrev pub decreases-loop-pass : goal.decreases-loop-pass
decreases-loop-pass g l = goal.left-loop-pass g l
