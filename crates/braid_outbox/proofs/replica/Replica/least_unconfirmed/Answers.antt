use Rattle.std.proofs.Common.{refl}
use Rattle.braid_outbox.proofs.Found.{missing_here, missing_next}
use Rattle.braid_outbox.proofs.replica.Replica.least_unconfirmed.Goals as goal

pub loop-i-init : goal.loop-i-init
loop-i-init c = refl

pub returns-then-not-is_confirmed : goal.returns-then-not-is_confirmed
returns-then-not-is_confirmed c = record { least = missing_here _ _ _ _ c.in-Some.ensures.value (λ h. let t = c.if-not-is_confirmed.ensures.confirmed.1 h in cc) c.loop-i.invariant }

pub loop-i-preserved : goal.loop-i-preserved
loop-i-preserved c = missing_next _ _ _ _ c.in-Some.ensures.value (c.if-not-is_confirmed.ensures.confirmed.0 refl) c.loop-i.invariant
