use Rattle.std.proofs.Common.{take}
use Rattle.std.specs.Option.{option_copied}
use Rattle.braid_graph.specs.Inside.{IsLeastOf}
use Rattle.braid_graph.proofs.graph.Graph.least_unheld.Given as goal

abbrev pub invariant-loop-i : goal.invariant-loop-i
invariant-loop-i l = IsLeastOf l.self (take l.i l.of) (option_copied l.least)
