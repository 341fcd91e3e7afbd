use Rattle.std.proofs.Common.{rules}
use Rattle.std.proofs.lemmas.List.Elements.{All-same, All-drop}
use Rattle.braid_io.specs.MemDoors.{IsUnused}
use Rattle.braid_io.proofs.mem_dialer.MemDialerDialer.dial.Goals as goal

pub invariant_of-self-2 : goal.invariant_of-self-2
invariant_of-self-2 c = (
  All-same IsUnused _ _ c.pop_front.ensures.rest (All-drop IsUnused 1 _ c.self.invariant.0),
  search rules,
  search rules,
)
