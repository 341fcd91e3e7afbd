use Rattle.braid_outbox.proofs.laws.counts_its_merges.Goals as goal
use Rattle.braid_outbox.proofs.Public.{counted_law}

pub returns : goal.returns
returns c = record { updates = counted_law }
