use Rattle.braid_grammar.proofs.OneUpdate.{spelled_is_update}
use Rattle.braid_grammar.proofs.laws.spelled_is_built.Goals as goal

pub returns : goal.returns
returns c = record { law = spelled_is_update }
