use Rattle.std.proofs.Common.{◌∙◌, Err, ap, sym, subst, refl}
use Rattle.std.proofs.lemmas.Result.{err_from_is_err_and}
use Rattle.braid_client.specs.declared.fault.Fault.{Fault}
use Rattle.braid_client.specs.Runs.{WritesChange}
use Rattle.braid_client.proofs.Rows.{write_lost, write_not, write_not_kept, write_kept}
use Rattle.braid_client.proofs.local.write.Goals as goal

pub returns-in_err-kept : goal.returns-in_err-kept
returns-in_err-kept g c =
    let p = err_from_is_err_and c.from_residual.result c.from_residual.ensures.1 in
    record {
      writes = subst (WritesChange c.args.name.now c.args.change (g.K.Keeper.keeping c.args.keeper.now) (g.K.Keeper.keeping c.load_kept.new.keeper)) (sym (p.1 ∙ ap (λ (f : Fault). Err f) p.2))
          (write_lost c.args.name.now c.args.change c.in_err-kept.field-0.0 (g.K.Keeper.keeping c.args.keeper.now) (g.K.Keeper.keeping c.load_kept.new.keeper) c.in_err-kept.ensures.loads);
    }

pub returns-in_err-text : goal.returns-in_err-text
returns-in_err-text g c =
    let p = err_from_is_err_and c.from_residual-in_err-text.result c.from_residual-in_err-text.ensures.1 in
    record {
      writes = subst (WritesChange c.args.name.now c.args.change (g.K.Keeper.keeping c.args.keeper.now) (g.K.Keeper.keeping c.load_kept.new.keeper)) (sym (p.1 ∙ ap (λ (f : Fault). Err f) p.2))
          (write_not c.args.name.now c.args.change c.in_ok-kept.kept c.in_err-text.field-0.0 (g.K.Keeper.keeping c.args.keeper.now) (g.K.Keeper.keeping c.load_kept.new.keeper) c.in_ok-kept.ensures.loads c.in_err-text.ensures.fault);
    }

pub returns-in_err-keep : goal.returns-in_err-keep
returns-in_err-keep g c =
    let p = err_from_is_err_and c.from_residual-in_err-keep.result c.from_residual-in_err-keep.ensures.1 in
    record {
      writes = subst (WritesChange c.args.name.now c.args.change (g.K.Keeper.keeping c.args.keeper.now) (g.K.Keeper.keeping c.keep.new.keeper)) (sym (p.1 ∙ ap (λ (f : Fault). Err f) p.2))
          (write_not_kept c.args.name.now c.args.change c.in_ok-kept.kept c.in_ok-kept.kept.place c.write_change.new.replica c.in_err-keep.field-0.0 (g.K.Keeper.keeping c.args.keeper.now) (g.K.Keeper.keeping c.load_kept.new.keeper) (g.K.Keeper.keeping c.keep.new.keeper)
          c.in_ok-kept.ensures.loads c.in_ok-text.ensures.due refl c.in_ok-text.ensures.written c.in_err-keep.ensures.keeps);
    }

pub returns : goal.returns
returns g c = record {
  writes = write_kept c.args.name.now c.args.change c.in_ok-kept.kept c.in_ok-kept.kept.place c.write_change.new.replica c.in_ok-text.text (g.K.Keeper.keeping c.args.keeper.now) (g.K.Keeper.keeping c.load_kept.new.keeper) (g.K.Keeper.keeping c.keep.new.keeper)
      c.in_ok-kept.ensures.loads c.in_ok-text.ensures.due refl c.in_ok-text.ensures.written c.in_ok-text.ensures.ok c.in_ok-keep.ensures.keeps;
}
