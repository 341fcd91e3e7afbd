use Rattle.std.proofs.Common.{◌≡◌, take}
use Rattle.braid_graph.specs.Entries.{ids_of}
use Rattle.braid_text.specs.Histories.{graph_of}
use Rattle.braid_outbox.specs.Kept.{picked}
use Rattle.braid_outbox.proofs.replica.Replica.head_ids.Given as goal

abbrev pub invariant-loop-number : goal.invariant-loop-number
invariant-loop-number l = l.ids.items ≡ ids_of (graph_of (picked l.self-inside.resource (take l.number-index l.number-items)))
