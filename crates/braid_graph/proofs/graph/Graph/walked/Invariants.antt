use Rattle.braid_graph.specs.Inside.{IsReached}
use Rattle.braid_graph.proofs.graph.Graph.walked.Given as goal

abbrev pub invariant-loop-run : goal.invariant-loop-run
invariant-loop-run l = IsReached l.self l.of l.of l.run l.ends.items
