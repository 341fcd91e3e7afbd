use Rattle.braid_cli.proofs.Refusals.{only_usage, no_form_is_usage}
use Rattle.braid_cli.proofs.laws.refusals.Goals as goal

pub returns-clause-usage : goal.returns-clause-usage
returns-clause-usage g c = only_usage g.D.Door.doorway g.L.Bell.ringing

pub returns-clause-no_form : goal.returns-clause-no_form
returns-clause-no_form g c = no_form_is_usage g.D.Door.doorway g.L.Bell.ringing
