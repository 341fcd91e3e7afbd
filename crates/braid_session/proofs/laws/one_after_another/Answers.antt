use Rattle.braid_session.proofs.Passing.{passed_both, heard_both}
use Rattle.braid_session.proofs.laws.one_after_another.Goals as goal

pub returns-clause-passed : goal.returns-clause-passed
returns-clause-passed c = passed_both

pub returns-clause-rings : goal.returns-clause-rings
returns-clause-rings c = heard_both
