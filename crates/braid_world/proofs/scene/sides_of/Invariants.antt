use Rattle.std.proofs.Common.{◌≡◌, take}
use Rattle.std.specs.List.{AllByRecursion}
use Rattle.braid_store.specs.Books.{of_path}
use Rattle.braid_world.specs.Events.{replicas_of, KeepsReplica, HoldsReading}
use Rattle.braid_world.proofs.scene.sides_of.Given as goal

abbrev pub invariant-loop-n : goal.invariant-loop-n
invariant-loop-n l = record {
  same : replicas_of l.sides.items ≡ take l.n l.replicas;
  kept : AllByRecursion KeepsReplica l.sides.items;
  reads : AllByRecursion (HoldsReading (of_path l.book l.path)) l.sides.items;
}
