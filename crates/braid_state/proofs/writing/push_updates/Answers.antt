use Rattle.std.proofs.Common.{◌∙◌}
use Rattle.braid_state.proofs.Written.{update_put, valid_more}
use Rattle.braid_state.proofs.writing.push_updates.Goals as goal

pub loop-update-preserved : goal.loop-update-preserved
loop-update-preserved c =
    let us = c.args.updates.now in
    let i = c.loop-update.update-index in
    let u = c.update-item.result in
    record {
      put = update_put us i u u c.args.out.now _ c.push.new.self c.get.result.now c.loop-update-test.true c.update-item.is c.loop-update.invariant.put (c.get.ensures.value ∙ c.in_ok-spelling.ensures.ok) c.in_ok-push.ensures.ok;
      valid = valid_more us i u u c.loop-update-test.true c.update-item.is c.loop-update.invariant.valid c.id.ensures.valid;
    }
