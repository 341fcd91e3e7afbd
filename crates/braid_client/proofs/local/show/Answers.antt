use Rattle.std.proofs.Common.{◌∙◌, List, ℕ, Err, ap, sym, subst}
use Rattle.std.proofs.lemmas.Result.{err_from_is_err_and}
use Rattle.braid_client.specs.declared.fault.Fault.{Fault}
use Rattle.braid_client.specs.Texts.{show_text}
use Rattle.braid_client.specs.Runs.{ShowsState, show_unaided}
use Rattle.braid_client.proofs.Rows.{show_lost, show_done}
use Rattle.braid_client.proofs.local.show.Goals as goal

pub returns-in_err-kept : goal.returns-in_err-kept
returns-in_err-kept g c =
    let p = err_from_is_err_and c.from_residual.result c.from_residual.ensures.1 in
    record {
      shows = subst (ShowsState c.args.name.now (g.K.Keeper.keeping c.args.keeper.now) (g.K.Keeper.keeping c.load_kept.new.keeper)) (sym (p.1 ∙ ap (λ (f : Fault). Err f) p.2))
          (show_lost c.args.name.now c.in_err-kept.field-0.0 (g.K.Keeper.keeping c.args.keeper.now) (g.K.Keeper.keeping c.load_kept.new.keeper) c.in_err-kept.ensures.loads);
    }

pub returns-in_err-text : goal.returns-in_err-text
returns-in_err-text g c =
    let p = err_from_is_err_and c.from_residual-in_err-text.result c.from_residual-in_err-text.ensures.1 in
    record {
      shows = subst (ShowsState c.args.name.now (g.K.Keeper.keeping c.args.keeper.now) (g.K.Keeper.keeping c.load_kept.new.keeper)) (sym (p.1 ∙ ap (λ (f : Fault). Err f) p.2))
          (show_unaided c.in_ok-kept.ensures.loads.2);
    }

pub returns : goal.returns
returns g c = record {
  shows = show_done c.args.name.now c.in_ok-kept.kept c.in_ok-text.text (g.K.Keeper.keeping c.args.keeper.now) (g.K.Keeper.keeping c.load_kept.new.keeper) c.in_ok-kept.ensures.loads
      (c.in_ok-text.ensures.ok ∙ ap (λ (path : List ℕ). show_text path c.in_ok-kept.kept.replica) c.get.ensures.value);
}
