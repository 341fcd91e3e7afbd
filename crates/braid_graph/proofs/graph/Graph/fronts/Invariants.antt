use Rattle.std.proofs.Common.{◌≡◌, length}
use Rattle.braid_graph.specs.Inside.{MarksFronts}
use Rattle.braid_graph.proofs.graph.Graph.fronts.Given as goal

-- the first fronts are marked
abbrev pub invariant-loop-run : goal.invariant-loop-run
invariant-loop-run l = record {
  size : length l.marks ≡ length l.self;
  so_far : MarksFronts l.self l.ends l.run l.marks;
}
