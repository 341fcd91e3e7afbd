use Rattle.std.proofs.Common.{◌≡◌, ℕ, ◌<◌, List, length, sym, subst, arith}
use Rattle.std.proofs.lemmas.Result.{err_from_is_err_and}
use Rattle.braid_change.specs.Updates.{UpdateView}
use Rattle.braid_state.specs.States.{UpdatesThen}
use Rattle.braid_state.specs.StateFaults.{BeginsNoUpdate, LacksUpdate}
use Rattle.braid_state.proofs.Stopped.{stop_weaker}
use Rattle.braid_state.proofs.Updates.{one_update_more}
use Rattle.braid_state.proofs.body.read_updates.Goals as goal

too_few : (us : List UpdateView) (count n : ℕ) (rest left bytes : List ℕ) → n ≡ length us → n < count → UpdatesThen us rest bytes → (left ≡ rest) × BeginsNoUpdate rest → LacksUpdate count left bytes
too_few us count n rest left bytes e l h k = record { updates = us; fewer = omega arith; good = subst (λ t. UpdatesThen us t bytes) (sym k.0) h; bad = subst BeginsNoUpdate (sym k.0) k.1 }

pub returns-in_err-update-clause-stop : goal.returns-in_err-update-clause-stop
returns-in_err-update-clause-stop c =
    let p = err_from_is_err_and c.from_residual.result c.from_residual.ensures.1 in
    let us = c.updates.updates in
    rw (p.1, p.2) (stop_weaker c.in_err-update.field-0.0 _ _ (λ left k. too_few us.items c.args.count _ c.updates.rest.now left c.args.bytes.now us.ok.0 (omega (arith, c.updates-test.true)) c.updates.invariant.read k) c.in_err-update.ensures.stop)

pub updates-preserved : goal.updates-preserved
updates-preserved c = record {
  within = omega (arith, c.updates-test.true);
  read = rw c.in_ok-push.ensures.items (one_update_more c.updates.updates.items c.in_ok-update.update c.updates.rest.now c.in_ok-update.after.now c.args.bytes.now c.updates.invariant.read c.in_ok-update.ensures.ok);
}
