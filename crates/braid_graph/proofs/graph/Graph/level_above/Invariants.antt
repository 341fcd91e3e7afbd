use Rattle.std.proofs.Common.{◌≡◌, ◌≤◌, take}
use Rattle.braid_graph.specs.Levels.{greatest_by, level_of}
use Rattle.braid_graph.proofs.graph.Graph.level_above.Given as goal

-- the first parents are done
abbrev pub invariant-loop-i : goal.invariant-loop-i
invariant-loop-i l = record {
  small : l.greatest ≤ 524288;
  greatest : l.greatest ≡ greatest_by (level_of l.self) (take l.i l.parents);
}
