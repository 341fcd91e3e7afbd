use Rattle.std.proofs.Common.{refl}
use Rattle.std.proofs.lemmas.Result.{err_from_is_err_and}
use Rattle.braid_client.specs.Runs.{words_formed}
use Rattle.braid_client.proofs.Carried.{words_lost, is_placed}
use Rattle.braid_client.proofs.carrying.carry_out_words.Goals as goal

pub returns-in_err-name-clause-carries : goal.returns-in_err-name-clause-carries
returns-in_err-name-clause-carries g c =
    let p = err_from_is_err_and c.from_residual.result c.from_residual.ensures.1 in
    words_lost c.args.words.now c.in_err-name.field-0.0 p.0 c.from_residual.result _ p.1 p.2 c.in_err-name.ensures.fault

pub returns-in_err-name-clause-kept : goal.returns-in_err-name-clause-kept
returns-in_err-name-clause-kept g c = refl

pub carry_out-requires-clause-placed : goal.carry_out-requires-clause-placed
carry_out-requires-clause-placed g c = λ κs outlives. is_placed c.args.words.now c.in_ok-name.name.now c.in_ok-name.command c.in_ok-name.ensures.ok

pub returns : goal.returns
returns g c = record {
  carries = words_formed c.in_ok-name.name.now c.in_ok-name.command c.carry_out.result c.in_ok-name.ensures.ok c.carry_out.ensures.carries;
  kept = c.carry_out.ensures.kept;
}
