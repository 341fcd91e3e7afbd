use Rattle.braid_outbox.proofs.laws.lands.Goals as goal
use Rattle.braid_outbox.proofs.Public.{puts_law, carried_law}

pub returns-clause-puts : goal.returns-clause-puts
returns-clause-puts c = puts_law

pub returns-clause-carried : goal.returns-clause-carried
returns-clause-carried c = carried_law
