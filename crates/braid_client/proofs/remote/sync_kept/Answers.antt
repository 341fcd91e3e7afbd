use Rattle.std.proofs.Common.{◌∙◌, ap, sym, subst, Err}
use Rattle.std.proofs.lemmas.Result.{err_from_is_err_and}
use Rattle.braid_client.specs.declared.fault.Fault.{Fault}
use Rattle.braid_client.specs.Runs.{RunsSync}
use Rattle.braid_client.proofs.Rows.{sync_lost, sync_without, sync_not_kept, sync_kept}
use Rattle.braid_client.proofs.remote.sync_kept.Goals as goal

pub returns-in_err-place : goal.returns-in_err-place
returns-in_err-place g c =
    let p = err_from_is_err_and c.from_residual.result c.from_residual.ensures.1 in
    record {
      runs = subst (RunsSync c.args.name.now (g.K.Keeper.keeping c.args.keeper.now) (g.K.Keeper.keeping c.load_kept.new.keeper) (g.D.Dialer.dialing c.args.dialer.now) (g.D.Dialer.dialing c.args.dialer.now)) (sym (p.1 ∙ ap (λ (f : Fault). Err f) p.2))
          (sync_lost c.args.name.now (g.K.Keeper.keeping c.args.keeper.now) (g.K.Keeper.keeping c.load_kept.new.keeper) (g.K.Keeper.keeping c.load_kept.new.keeper) (g.D.Dialer.dialing c.args.dialer.now) (g.D.Dialer.dialing c.args.dialer.now) c.in_err-place.field-0.0 c.in_err-place.ensures.loads);
    }

pub returns-in-Memory : goal.returns-in-Memory
returns-in-Memory g c =
    record {
      runs = sync_without c.args.name.now (g.K.Keeper.keeping c.args.keeper.now) (g.K.Keeper.keeping c.load_kept.new.keeper) (g.K.Keeper.keeping c.load_kept.new.keeper) (g.D.Dialer.dialing c.args.dialer.now) (g.D.Dialer.dialing c.sync-end.new.dialer) c.in_ok-place.field-0
          c.sync-end.new.replica c.sync-end.result c.in_ok-place.ensures.loads c.sync-end.ensures.text;
    }

pub returns-in_err-report : goal.returns-in_err-report
returns-in_err-report g c =
    let p = err_from_is_err_and c.from_residual-in_err-report.result c.from_residual-in_err-report.ensures.1 in
    record {
      runs = subst (RunsSync c.args.name.now (g.K.Keeper.keeping c.args.keeper.now) (g.K.Keeper.keeping c.load_kept.new.keeper) (g.D.Dialer.dialing c.args.dialer.now) (g.D.Dialer.dialing c.sync-end.new.dialer)) (sym (p.1 ∙ ap (λ (f : Fault). Err f) p.2))
          (sync_without c.args.name.now (g.K.Keeper.keeping c.args.keeper.now) (g.K.Keeper.keeping c.load_kept.new.keeper) (g.K.Keeper.keeping c.load_kept.new.keeper) (g.D.Dialer.dialing c.args.dialer.now) (g.D.Dialer.dialing c.sync-end.new.dialer) c.in_ok-place.field-0
          c.sync-end.new.replica c.sync-end.result c.in_ok-place.ensures.loads c.sync-end.ensures.text);
    }

pub returns-in_err-keep : goal.returns-in_err-keep
returns-in_err-keep g c =
    let p = err_from_is_err_and c.from_residual-in_err-keep.result c.from_residual-in_err-keep.ensures.1 in
    record {
      runs = subst (RunsSync c.args.name.now (g.K.Keeper.keeping c.args.keeper.now) (g.K.Keeper.keeping c.keep.new.keeper) (g.D.Dialer.dialing c.args.dialer.now) (g.D.Dialer.dialing c.sync-end.new.dialer)) (sym (p.1 ∙ ap (λ (f : Fault). Err f) p.2))
          (sync_not_kept c.args.name.now (g.K.Keeper.keeping c.args.keeper.now) (g.K.Keeper.keeping c.load_kept.new.keeper) (g.K.Keeper.keeping c.keep.new.keeper) (g.D.Dialer.dialing c.args.dialer.now) (g.D.Dialer.dialing c.sync-end.new.dialer) c.in_ok-place.field-0
          c.sync-end.new.replica c.sync-end.result c.in_err-keep.field-0.0 c.in_ok-place.ensures.loads c.sync-end.ensures.text c.in_default.not-Memory c.in_err-keep.ensures.keeps);
    }

pub returns : goal.returns
returns g c =
    record {
      runs = sync_kept c.args.name.now (g.K.Keeper.keeping c.args.keeper.now) (g.K.Keeper.keeping c.load_kept.new.keeper) (g.K.Keeper.keeping c.keep.new.keeper) (g.D.Dialer.dialing c.args.dialer.now) (g.D.Dialer.dialing c.sync-end.new.dialer) c.in_ok-place.field-0
          c.sync-end.new.replica c.sync-end.result c.in_ok-report.report c.in_ok-place.ensures.loads c.sync-end.ensures.text c.in_default.not-Memory c.in_ok-report.ensures.ok c.in_ok-keep.ensures.keeps;
    }
