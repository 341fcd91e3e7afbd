use Rattle.std.proofs.Common.{take, subst}
use Rattle.braid_change.specs.Digests.{HasAdded}
use Rattle.braid_text.specs.Digested.{by_identifier}
use Rattle.braid_text.proofs.Sorted.{take_mapped}
use Rattle.braid_text.proofs.digesting.digest.Goals as goal

pub loop-update-preserved : goal.loop-update-preserved
loop-update-preserved c =
    subst (HasAdded c.add.new.self)
    (take_mapped (λ update. update.now) (by_identifier c.args.updates.now) c.in_ok-sorted.sorted.items c.deref-update-items.result.now c.loop-update.update-index c.update-item.result c.in_ok-sorted.ensures.ok c.deref-update-items.ensures.value c.loop-update-test.true c.update-item.is)
    (c.in_ok-add.ensures.ok (take c.loop-update.update-index (by_identifier c.args.updates.now)) c.loop-update.invariant)
