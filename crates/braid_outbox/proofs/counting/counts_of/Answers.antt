use Rattle.std.proofs.Common.{length, ap}
use Rattle.braid_outbox.proofs.Written.{body_counts}
use Rattle.braid_outbox.proofs.counting.counts_of.Goals as goal

pub returns-in-Body-clause-ok : goal.returns-in-Body-clause-ok
returns-in-Body-clause-ok c = λ t e. body_counts t _ _ _ _ c.in-Body.is e (ap length c.chars.ensures.value)
