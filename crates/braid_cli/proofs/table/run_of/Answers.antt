use Rattle.std.proofs.Common.{◌≡◌, sym, ap, ◌∙◌}
use Rattle.braid_cli.specs.Picks.{commands, run_in}
use Rattle.braid_cli.proofs.Picked.{first_picks}
use Rattle.braid_cli.proofs.table.run_of.Goals as goal

pub returns-in-Some : goal.returns-in-Some
returns-in-Some c =
    let told : c.run_in.result ≡ run_in commands c.get.result.now = c.run_in.ensures.value in
    record { value = told ∙ (ap (run_in commands) c.get.ensures.value ∙ sym (first_picks c.args.words.now c.in-Some.word.now c.in-Some.ensures.value)) }
