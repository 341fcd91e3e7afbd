use Rattle.std.proofs.Common.{take}
use Rattle.std.specs.List.{AllZip}
use Rattle.braid_graph.specs.Inside.{IsNumberOf}
use Rattle.braid_graph.proofs.graph.Graph.links_to.Given as goal

-- the first parents are done
abbrev pub invariant-loop-i : goal.invariant-loop-i
invariant-loop-i l = AllZip (IsNumberOf l.self) (take l.i l.parents) l.numbers.items
