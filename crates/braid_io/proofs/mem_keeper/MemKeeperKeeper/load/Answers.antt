use Rattle.std.proofs.Common.{rules, refl}
use Rattle.braid_io.proofs.mem_keeper.MemKeeperKeeper.load.Goals as goal

pub returns-then-begin-clause-exact : goal.returns-then-begin-clause-exact
returns-then-begin-clause-exact c = (
  rw (← c.self.view_is) (search rules),
  rw (← c.self.view_is, c.begin.ensures.counted, c.saturating_add-self-inside.ensures) refl,
)
