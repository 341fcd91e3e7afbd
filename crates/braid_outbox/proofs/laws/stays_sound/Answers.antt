use Rattle.braid_outbox.proofs.laws.stays_sound.Goals as goal
use Rattle.braid_outbox.proofs.Public.{learn_law, acked_law, write_law}

pub returns-clause-learn : goal.returns-clause-learn
returns-clause-learn c = learn_law

pub returns-clause-acked : goal.returns-clause-acked
returns-clause-acked c = acked_law

pub returns-clause-write : goal.returns-clause-write
returns-clause-write c = write_law
