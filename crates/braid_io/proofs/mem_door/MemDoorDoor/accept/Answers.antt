use Rattle.std.proofs.Common.{rules}
use Rattle.std.proofs.lemmas.List.Elements.{All-same, All-drop}
use Rattle.braid_io.specs.MemDoors.{IsUnused}
use Rattle.braid_io.proofs.mem_door.MemDoorDoor.accept.Goals as goal

pub invariant_of-self-in-Some : goal.invariant_of-self-in-Some
invariant_of-self-in-Some c = (
  All-same IsUnused _ _ c.pop_front.ensures.rest (All-drop IsUnused 1 _ c.self.invariant.0),
  search rules,
)
