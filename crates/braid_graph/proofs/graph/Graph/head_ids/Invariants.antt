use Rattle.std.proofs.Common.{◌≡◌, drop, filter, reverse}
use Rattle.braid_graph.specs.Entries.{ids_of}
use Rattle.braid_graph.specs.Frontiers.{is_head}
use Rattle.braid_graph.specs.Inside.{entries_in}
use Rattle.braid_graph.proofs.graph.Graph.head_ids.Given as goal

-- the entries from number n on are done
abbrev pub invariant-loop-n : goal.invariant-loop-n
invariant-loop-n l = let es = entries_in l.self-inside.entries.entries in l.ids.items ≡ reverse (filter (is_head es) (drop l.n (ids_of es)))
