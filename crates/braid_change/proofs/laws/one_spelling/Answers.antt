use Rattle.braid_change.proofs.Read.{update_same, all_same}
use Rattle.braid_change.proofs.laws.one_spelling.Goals as goal

pub returns-clause-one : goal.returns-clause-one
returns-clause-one c = update_same

pub returns-clause-all : goal.returns-clause-all
returns-clause-all c = all_same
