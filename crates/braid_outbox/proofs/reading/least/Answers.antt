use Rattle.std.proofs.Common.{arith}
use Rattle.braid_outbox.proofs.ReadNow.{least_next, least_end}
use Rattle.braid_outbox.proofs.reading.least.Goals as goal

pub loop-n-preserved : goal.loop-n-preserved
loop-n-preserved c = least_next _ _ _ _ _ _ c.loop-n.invariant (λ e. omega (arith, e, c.if-n-eq-MOST_PARENTS.false)) c.in-Some.ensures.value c.in_ok-copy.ensures.ok c.in_ok-push.ensures.items

pub returns-clause-ok : goal.returns-clause-ok
returns-clause-ok c = least_end _ _ _ c.loop-n.invariant (omega (arith, c.loop-n-test.false, c.len-n-end.ensures.len))
