use Rattle.std.proofs.Common.{[]}
use Rattle.braid_change.proofs.Pieces.{at_range, between_ranges}
use Rattle.braid_change.proofs.laws.keeps_the_rest.Goals as goal

pub returns-clause-each : goal.returns-clause-each
returns-clause-each c = at_range

pub returns-clause-before : goal.returns-clause-before
returns-clause-before c = λ t s change r back. at_range t s change [] back r

pub returns-clause-between : goal.returns-clause-between
returns-clause-between c = between_ranges

pub returns-clause-after : goal.returns-clause-after
returns-clause-after c = λ t s change front r. at_range t s change front [] r
