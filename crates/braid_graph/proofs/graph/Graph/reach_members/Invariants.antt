use Rattle.std.proofs.Common.{take}
use Rattle.braid_graph.specs.Runs.{runs_of}
use Rattle.braid_graph.specs.Inside.{IsReached}
use Rattle.braid_graph.proofs.graph.Graph.reach_members.Given as goal

abbrev pub invariant-loop-i : goal.invariant-loop-i
invariant-loop-i l = IsReached l.self l.of (take l.i l.of) (runs_of l.self) l.ends
