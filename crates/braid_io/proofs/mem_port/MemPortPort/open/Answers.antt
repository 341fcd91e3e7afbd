use Rattle.std.proofs.Common.{rules, refl, inl, inr}
use Rattle.braid_io.specs.MemDoors.{IsUnusedPair}
use Rattle.braid_io.proofs.Parts.{front_all, rest_all}
use Rattle.braid_io.proofs.mem_port.MemPortPort.open.Goals as goal
use Rattle.braid_io.proofs.mem_port.MemPortPort.open.Goals.{then-begin-via-then-begin, then-begin-via-else-begin+then-len-workers}

pub returns-then-begin-clause-exact : goal.returns-then-begin-clause-exact
returns-then-begin-clause-exact c = (
  elim c.then-begin.branch [
    | then-begin-via-then-begin w ↦ inl (rw (← c.self.view_is) (search rules))
    | then-begin-via-else-begin+then-len-workers w ↦ inr (rw (← c.self.view_is) (search rules))
  ],
  rw (← c.self.view_is, c.fault.ensures.counted, c.begin.ensures.counted) (search rules),
)

pub invariant_of-self-2 : goal.invariant_of-self-2
invariant_of-self-2 c = rest_all IsUnusedPair _ _ _ c.first_of.ensures.moved c.self.invariant

pub returns-clause-open : goal.returns-clause-open
returns-clause-open c = (
  c.first_of.ensures.count,
  front_all IsUnusedPair _ _ _ c.first_of.ensures.moved c.self.invariant,
  search rules,
)
