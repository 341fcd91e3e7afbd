use Rattle.braid_outbox.proofs.laws.caught_up.Goals as goal
use Rattle.braid_outbox.proofs.Public.{end_law, front_law, whole_law}

pub returns-clause-end : goal.returns-clause-end
returns-clause-end c = end_law

pub returns-clause-front : goal.returns-clause-front
returns-clause-front c = front_law

pub returns-clause-whole : goal.returns-clause-whole
returns-clause-whole c = whole_law
