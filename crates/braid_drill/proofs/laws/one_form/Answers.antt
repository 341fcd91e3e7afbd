use Rattle.braid_drill.proofs.Ends.{one_form}
use Rattle.braid_drill.proofs.laws.one_form.Goals as goal

pub returns : goal.returns
returns c = record { law = one_form }
