use Rattle.std.proofs.Common.{◌∙◌, Err, ap, sym, subst}
use Rattle.std.proofs.lemmas.Result.{err_from_is_err_and}
use Rattle.braid_client.specs.declared.fault.Fault.{Fault}
use Rattle.braid_client.specs.Runs.{MakesState, new_unaided}
use Rattle.braid_client.proofs.Rows.{make_lost, make_unkept, make_kept}
use Rattle.braid_client.proofs.local.make.Goals as goal

pub returns-in_err-load_nothing : goal.returns-in_err-load_nothing
returns-in_err-load_nothing g c =
    let p = err_from_is_err_and c.from_residual.result c.from_residual.ensures.1 in
    record {
      makes = subst (MakesState c.args.name.now c.args.place.now c.args.agent (g.K.Keeper.keeping c.args.keeper.now) (g.K.Keeper.keeping c.load_nothing.new.keeper)) (sym (p.1 ∙ ap (λ (f : Fault). Err f) p.2))
          (make_lost c.args.name.now c.args.place.now c.args.agent c.in_err-load_nothing.field-0.0 (g.K.Keeper.keeping c.args.keeper.now) (g.K.Keeper.keeping c.load_nothing.new.keeper) c.in_err-load_nothing.ensures.gives);
    }

pub returns-in_err-text : goal.returns-in_err-text
returns-in_err-text g c =
    let p = err_from_is_err_and c.from_residual-in_err-text.result c.from_residual-in_err-text.ensures.1 in
    record {
      makes = subst (MakesState c.args.name.now c.args.place.now c.args.agent (g.K.Keeper.keeping c.args.keeper.now) (g.K.Keeper.keeping c.load_nothing.new.keeper)) (sym (p.1 ∙ ap (λ (f : Fault). Err f) p.2))
          (new_unaided c.in_ok-load_nothing.ensures.gives.1);
    }

pub returns-in_err-keep : goal.returns-in_err-keep
returns-in_err-keep g c =
    let p = err_from_is_err_and c.from_residual-in_err-keep.result c.from_residual-in_err-keep.ensures.1 in
    record {
      makes = subst (MakesState c.args.name.now c.args.place.now c.args.agent (g.K.Keeper.keeping c.args.keeper.now) (g.K.Keeper.keeping c.keep-2.new.keeper)) (sym (p.1 ∙ ap (λ (f : Fault). Err f) p.2))
          (make_unkept c.args.name.now c.args.place.now c.args.agent c.new.result c.in_err-keep.field-0.0 (g.K.Keeper.keeping c.args.keeper.now) (g.K.Keeper.keeping c.load_nothing.new.keeper) (g.K.Keeper.keeping c.keep-2.new.keeper)
          c.in_ok-load_nothing.ensures.gives c.new.ensures.none c.in_err-keep.ensures.keeps);
    }

pub returns : goal.returns
returns g c = record {
  makes = make_kept c.args.name.now c.args.place.now c.args.agent c.in_ok-text.text c.new.result (g.K.Keeper.keeping c.args.keeper.now) (g.K.Keeper.keeping c.load_nothing.new.keeper) (g.K.Keeper.keeping c.keep-2.new.keeper)
      c.in_ok-load_nothing.ensures.gives c.new.ensures.none c.in_ok-text.ensures.ok c.in_ok-keep.ensures.keeps;
}
