use Rattle.std.proofs.Common.{◌∙◌, ap, sym, subst, Err}
use Rattle.std.proofs.lemmas.Bool.{false≢true}
use Rattle.std.proofs.lemmas.Result.{err_from_is_err_and}
use Rattle.braid_client.specs.declared.fault.Fault.{Fault}
use Rattle.braid_client.specs.Runs.{RunsFollow}
use Rattle.braid_client.specs.Steps.{KeepsAs}
use Rattle.braid_client.proofs.Rows.{follow_lost, follow_without, follow_not_kept, follow_not_printed, follow_kept}
use Rattle.braid_client.proofs.remote.follow_kept.Goals as goal

pub returns-in_err-place-clause-runs : goal.returns-in_err-place-clause-runs
returns-in_err-place-clause-runs g c =
    let p = err_from_is_err_and c.from_residual.result c.from_residual.ensures.1 in
    subst (RunsFollow c.args.name.now c.args.count (g.K.Keeper.keeping c.args.keeper.now) (g.K.Keeper.keeping c.load_kept.new.keeper) (g.D.Dialer.dialing c.args.dialer.now) (g.D.Dialer.dialing c.args.dialer.now) (g.O.Sink.outflow c.args.out.now) (g.O.Sink.outflow c.args.out.now)) (sym (p.1 ∙ ap (λ (f : Fault). Err f) p.2))
    (follow_lost c.args.name.now c.args.count (g.K.Keeper.keeping c.args.keeper.now) (g.K.Keeper.keeping c.load_kept.new.keeper) (g.K.Keeper.keeping c.load_kept.new.keeper) (g.D.Dialer.dialing c.args.dialer.now) (g.D.Dialer.dialing c.args.dialer.now) (g.O.Sink.outflow c.args.out.now) (g.O.Sink.outflow c.args.out.now) c.in_err-place.field-0.0 c.in_err-place.ensures.loads)

pub returns-in-Memory-clause-runs : goal.returns-in-Memory-clause-runs
returns-in-Memory-clause-runs g c =
    follow_without c.args.name.now c.args.count (g.K.Keeper.keeping c.args.keeper.now) (g.K.Keeper.keeping c.load_kept.new.keeper) (g.K.Keeper.keeping c.load_kept.new.keeper) (g.D.Dialer.dialing c.args.dialer.now) (g.D.Dialer.dialing c.follow-followed.new.dialer) (g.O.Sink.outflow c.args.out.now) (g.O.Sink.outflow c.follow-followed.new.out) c.in_ok-place.field-0
    c.follow-followed.new.replica c.follow-followed.result c.in_ok-place.ensures.loads c.follow-followed.ensures.text

pub returns-in_err-report : goal.returns-in_err-report
returns-in_err-report g c =
    let p = err_from_is_err_and c.from_residual-in_err-report.result c.from_residual-in_err-report.ensures.1 in
    record {
      runs = subst (RunsFollow c.args.name.now c.args.count (g.K.Keeper.keeping c.args.keeper.now) (g.K.Keeper.keeping c.load_kept.new.keeper) (g.D.Dialer.dialing c.args.dialer.now) (g.D.Dialer.dialing c.follow-followed.new.dialer) (g.O.Sink.outflow c.args.out.now) (g.O.Sink.outflow c.follow-followed.new.out)) (sym (p.1 ∙ ap (λ (f : Fault). Err f) p.2))
          (follow_without c.args.name.now c.args.count (g.K.Keeper.keeping c.args.keeper.now) (g.K.Keeper.keeping c.load_kept.new.keeper) (g.K.Keeper.keeping c.load_kept.new.keeper) (g.D.Dialer.dialing c.args.dialer.now) (g.D.Dialer.dialing c.follow-followed.new.dialer) (g.O.Sink.outflow c.args.out.now) (g.O.Sink.outflow c.follow-followed.new.out) c.in_ok-place.field-0
          c.follow-followed.new.replica c.follow-followed.result c.in_ok-place.ensures.loads c.follow-followed.ensures.text);
      kept = c.follow-followed.ensures.kept;
    }

pub returns-in-Ok : goal.returns-in-Ok
returns-in-Ok g c =
    record {
      runs = follow_kept c.args.name.now c.args.count (g.K.Keeper.keeping c.args.keeper.now) (g.K.Keeper.keeping c.load_kept.new.keeper) (g.K.Keeper.keeping c.keep.new.keeper) (g.D.Dialer.dialing c.args.dialer.now) (g.D.Dialer.dialing c.follow-followed.new.dialer) (g.O.Sink.outflow c.args.out.now) (g.O.Sink.outflow c.follow-followed.new.out) c.in_ok-place.field-0
          c.follow-followed.new.replica c.follow-followed.result c.in_ok-report.report c.in_ok-place.ensures.loads c.follow-followed.ensures.text c.in_default.not-Memory c.in_ok-report.ensures.ok c.in-Ok.ensures.keeps;
      kept = c.follow-followed.ensures.kept;
    }

pub returns-then-is_passed_over : goal.returns-then-is_passed_over
returns-then-is_passed_over g c =
    let t = (c.is_passed_over.ensures.value).0 c.if-is_passed_over.true in
    record {
      runs = follow_not_printed c.args.name.now c.args.count (g.K.Keeper.keeping c.args.keeper.now) (g.K.Keeper.keeping c.load_kept.new.keeper) (g.K.Keeper.keeping c.keep.new.keeper) (g.D.Dialer.dialing c.args.dialer.now) (g.D.Dialer.dialing c.follow-followed.new.dialer) (g.O.Sink.outflow c.args.out.now) (g.O.Sink.outflow c.follow-followed.new.out) c.in_ok-place.field-0
          c.follow-followed.new.replica c.follow-followed.result c.in_ok-report.report c.in_ok-place.ensures.loads c.follow-followed.ensures.text t.1 c.in_ok-report.ensures.ok
          (subst (λ (f : Fault). KeepsAs c.args.name.now c.in_ok-place.field-0.place c.follow-followed.new.replica (Err f) (g.K.Keeper.keeping c.load_kept.new.keeper) (g.K.Keeper.keeping c.keep.new.keeper)) t.0 c.in-Err.ensures.keeps);
      kept = c.follow-followed.ensures.kept;
    }

pub returns : goal.returns
returns g c = record {
  runs = follow_not_kept c.args.name.now c.args.count (g.K.Keeper.keeping c.args.keeper.now) (g.K.Keeper.keeping c.load_kept.new.keeper) (g.K.Keeper.keeping c.keep.new.keeper) (g.D.Dialer.dialing c.args.dialer.now) (g.D.Dialer.dialing c.follow-followed.new.dialer) (g.O.Sink.outflow c.args.out.now) (g.O.Sink.outflow c.follow-followed.new.out) c.in_ok-place.field-0
      c.follow-followed.new.replica c.follow-followed.result c.in-Err.fault c.in_ok-place.ensures.loads c.follow-followed.ensures.text c.in_default.not-Memory
      (λ a b. false≢true (sym c.if-is_passed_over.false ∙ (c.is_passed_over.ensures.value).1 (a, b))) c.in-Err.ensures.keeps;
  kept = c.follow-followed.ensures.kept;
}
