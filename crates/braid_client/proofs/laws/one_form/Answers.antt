use Rattle.braid_client.proofs.OneForm.{one_form}
use Rattle.braid_client.proofs.laws.one_form.Goals as goal

pub returns : goal.returns
returns c = record { law = one_form }
