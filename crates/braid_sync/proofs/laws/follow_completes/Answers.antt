use Rattle.braid_sync.proofs.LawCompletes.{follow_completes}
use Rattle.braid_sync.proofs.LawDialled.{dialled_completes}
use Rattle.braid_sync.proofs.LawWritten.{written_is_whole}
use Rattle.braid_sync.proofs.laws.follow_completes.Goals as goal

pub returns-clause-law : goal.returns-clause-law
returns-clause-law c = follow_completes

pub returns-clause-dialled : goal.returns-clause-dialled
returns-clause-dialled c = dialled_completes

pub returns-clause-written : goal.returns-clause-written
returns-clause-written c = written_is_whole
