use Rattle.braid_outbox.proofs.laws.sound.Goals as goal
use Rattle.braid_outbox.proofs.Public.{sound_replica, sound_kept}

pub returns-clause-replica : goal.returns-clause-replica
returns-clause-replica c = sound_replica

pub returns-clause-kept : goal.returns-clause-kept
returns-clause-kept c = sound_kept
