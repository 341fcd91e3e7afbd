use Rattle.braid_sync.proofs.LawCounts.{counts_rose}
use Rattle.braid_sync.proofs.laws.counts_rose.Goals as goal

pub returns : goal.returns
returns c = record { law = counts_rose }
