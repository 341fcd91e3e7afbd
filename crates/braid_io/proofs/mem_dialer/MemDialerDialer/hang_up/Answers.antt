use Rattle.std.proofs.Common.{rules}
use Rattle.braid_io.proofs.Ends.{hangs_up}
use Rattle.braid_io.proofs.mem_dialer.MemDialerDialer.hang_up.Goals as goal

pub returns-clause-exact : goal.returns-clause-exact
returns-clause-exact c = search rules

pub returns-clause-hang_up : goal.returns-clause-hang_up
returns-clause-hang_up c = hangs_up _ _ _ (returns-clause-exact c)
