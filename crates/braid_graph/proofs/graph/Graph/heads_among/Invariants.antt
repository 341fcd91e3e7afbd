use Rattle.std.proofs.Common.{◌≡◌, ◌≤◌, take, length, filter}
use Rattle.braid_graph.specs.Frontiers.{is_head}
use Rattle.braid_graph.proofs.graph.Graph.heads_among.Given as goal

-- the heads among the first members, at most as many as these
abbrev pub invariant-loop-i : goal.invariant-loop-i
invariant-loop-i l = record { few : l.count ≤ l.i; counted : l.count ≡ length (filter (is_head l.self) (take l.i l.of)) }
