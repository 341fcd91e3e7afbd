use Rattle.std.proofs.Common.{◌≡◌, [], ◌∷◌, ◌≤◌, length, sym, ap, ◌∙◌, arith}
use Rattle.std.proofs.lemmas.Result.{err_from_is_err_and}
use Rattle.braid_shelf.specs.Reading.{Read, params_at}
use Rattle.braid_shelf.proofs.Params.{params_go_on, params_stop, params_end, param_shrinks}
use Rattle.braid_shelf.proofs.param.read_params.Goals as goal

pub returns-in_err-param : goal.returns-in_err-param
returns-in_err-param c =
    let p = err_from_is_err_and c.from_residual.result c.from_residual.ensures.1 in
    let more = c.in-Some.after.now in
    let first : c.loop-after.rest.now ≡ 59 ∷ more = c.in-Some.ensures in
    rw (p.1, p.2) (params_stop c.in_err-param.field-0.0 c.loop-after.params more c.loop-after.rest.now (params_at [] c.args.bytes.now) first c.in_err-param.ensures c.loop-after.invariant)

pub loop-after-smaller : goal.loop-after-smaller
loop-after-smaller c =
    let more = c.in-Some.after.now in
    let first : c.loop-after.rest.now ≡ 59 ∷ more = c.in-Some.ensures in
    let h : length c.in_ok-param.after.now ≤ length more = param_shrinks c.in_ok-param.param more c.in_ok-param.after.now c.in_ok-param.ensures in
    let l = ap length first in
    omega arith

pub loop-after-preserved : goal.loop-after-preserved
loop-after-preserved c =
    let more = c.in-Some.after.now in
    let first : c.loop-after.rest.now ≡ 59 ∷ more = c.in-Some.ensures in
    ap (λ params. params_at params c.in_ok-param.after.now) c.in_ok-put.ensures.ok
    ∙ sym (params_go_on c.loop-after.params c.in_ok-param.param more c.in_ok-param.after.now c.in_ok-param.ensures)
    ∙ ap (params_at c.loop-after.params) (sym first) ∙ c.loop-after.invariant

pub returns : goal.returns
returns c = sym c.loop-after.invariant ∙ params_end c.loop-after.params c.loop-after.rest.now c.in_default.ensures ∙ ap (λ params. Read params c.loop-after.rest.now) (sym c.in_ok-into_list.ensures.ok)
