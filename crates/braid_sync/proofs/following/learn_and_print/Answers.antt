use Rattle.std.proofs.Common.{ap, ◌∙◌, Err}
use Rattle.std.proofs.lemmas.Result.{err_from_is_err_and}
use Rattle.braid_sync.specs.declared.end.SyncEnd.{SyncEnd}
use Rattle.braid_sync.proofs.FollowSteps.{no_line}
use Rattle.braid_sync.proofs.following.learn_and_print.Goals as goal

pub returns-in_err-rest-clause-learns : goal.returns-in_err-rest-clause-learns
returns-in_err-rest-clause-learns g c =
    let r = err_from_is_err_and c.from_residual.result c.from_residual.ensures.1 in
    no_line c.from_residual.result c.args.replica.now c.args.update _ (r.1 ∙ ap (λ (x : SyncEnd). Err x) r.2)
