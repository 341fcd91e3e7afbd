use Rattle.braid_change.proofs.OneRange.{range_one, range_faultless, spelled_range}
use Rattle.braid_change.proofs.laws.one_range.Goals as goal

pub returns-clause-one : goal.returns-clause-one
returns-clause-one c = range_one

pub returns-clause-faultless : goal.returns-clause-faultless
returns-clause-faultless c = range_faultless

pub returns-clause-spelled : goal.returns-clause-spelled
returns-clause-spelled c = spelled_range
