use Rattle.std.proofs.Common.{take}
use Rattle.braid_graph.specs.Inside.{AllMarked}
use Rattle.braid_graph.proofs.graph.Graph.all_marked.Given as goal

abbrev pub invariant-loop-i : goal.invariant-loop-i
invariant-loop-i l = AllMarked l.self (take l.i l.of) l.marks
