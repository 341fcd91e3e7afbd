-- How an update that is given stands among a replica's.
use Rattle.std.specs.Prelude.{◌≡◌, ◌⊎◌, true, false, Contains}
use Rattle.braid_change.specs.Updates.{UpdateView}
use Rattle.braid_graph.specs.Entries.{Holds}
use Rattle.braid_text.specs.Histories.{graph_of}
use Rattle.braid_outbox.specs.Replicas.{ReplicaView, all_of}
use Rattle.braid_outbox.specs.Learns.{is_first}
use Rattle.braid_outbox.specs.declared.standing.Standing.{Standing}
use Rattle.braid_outbox.specs.declared.standing.Standing.TheVariants.{Confirmed, First, Next, Other}

-- no update has its identifier, or it is a later unsent one
abbrev pub IsNext : ReplicaView → UpdateView → Type 0
IsNext r u = ¬ (Holds (graph_of (all_of r)) u.id) ⊎ (Contains r.unsent u × (is_first u r.unsent ≡ false))

-- when an update stands so
abbrev pub Stands : ReplicaView → UpdateView → Standing → Type 0
Stands r u Confirmed = Contains r.confirmed u
Stands r u First = is_first u r.unsent ≡ true
Stands r u Next = IsNext r u
Stands r u Other = Holds (graph_of (all_of r)) u.id × ¬ (Contains (all_of r) u)
