use Rattle.std.proofs.Common.{All}
use Rattle.braid_io.specs.MemDoors.{IsUnused}
use Rattle.braid_vectors.proofs.protocol.links.Given as goal

abbrev pub invariant-loop-example : goal.invariant-loop-example
invariant-loop-example l = All IsUnused l.links.items
