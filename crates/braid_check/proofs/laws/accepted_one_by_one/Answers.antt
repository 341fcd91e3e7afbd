use Rattle.braid_check.proofs.OneByOne.{none_accepted, accepted_more}
use Rattle.braid_check.proofs.laws.accepted_one_by_one.Goals as goal

pub returns : goal.returns
returns c = record { none = none_accepted; more = accepted_more }
