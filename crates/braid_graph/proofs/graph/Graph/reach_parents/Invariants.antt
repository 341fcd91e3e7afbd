use Rattle.std.proofs.Common.{take}
use Rattle.std.specs.List.{Contains}
use Rattle.braid_graph.specs.Inside.{AreEnds, ReachesMore}
use Rattle.braid_graph.proofs.graph.Graph.reach_parents.Given as goal

-- the first parents are taken in
abbrev pub invariant-loop-parent : goal.invariant-loop-parent
invariant-loop-parent l = record {
  fits : AreEnds l.self l.ends;
  so_far : ReachesMore l.self l.initial.ends l.ends (Contains (take l.parent-index l.parent-items));
}
