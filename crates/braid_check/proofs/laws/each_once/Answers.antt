use Rattle.std.proofs.Common.{refl}
use Rattle.braid_check.proofs.Once.{once_exact, once_joins, once_passes}
use Rattle.braid_check.proofs.laws.each_once.Goals as goal

pub returns : goal.returns
returns c = record { none = refl; exact = once_exact; joins = once_joins; passes = once_passes }
