use Rattle.braid_stream.proofs.Budgets as lemmas
use Rattle.braid_stream.proofs.laws.budget_falls.Goals as goal

pub returns : goal.returns
returns c = record { law = lemmas.budget_falls }
