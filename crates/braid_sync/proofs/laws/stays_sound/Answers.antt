use Rattle.braid_sync.proofs.LawSound.{sync_is_sound, follow_is_sound}
use Rattle.braid_sync.proofs.laws.stays_sound.Goals as goal

pub returns-clause-sync : goal.returns-clause-sync
returns-clause-sync c = sync_is_sound

pub returns-clause-follow : goal.returns-clause-follow
returns-clause-follow c = follow_is_sound
