use Rattle.braid_sync.proofs.Synced.{sync_done, sync_ended}
use Rattle.braid_sync.proofs.Kept.{sync_keeps, goes_on}
use Rattle.braid_sync.proofs.LawEnds.{sync_never}
use Rattle.braid_sync.proofs.syncing.sync.Goals as goal

pub returns-in-Ok-clause-text : goal.returns-in-Ok-clause-text
returns-in-Ok-clause-text g c = sync_done c.args.place.now c.args.replica.now c.sync_all-ended.new.replica c.in-Ok.field-0 _ _ c.in-Ok.ensures.text

pub returns-in-Ok-clause-hung_up : goal.returns-in-Ok-clause-hung_up
returns-in-Ok-clause-hung_up g c = c.in-Ok.ensures.text.gains.hung_up

pub returns-in-Ok-clause-sound : goal.returns-in-Ok-clause-sound
returns-in-Ok-clause-sound g c = let t = c.in-Ok.ensures.text in goes_on _ _ c.confirmed-confirmed.ensures.sound (sync_keeps _ _ _ _ _ t.text)

pub returns-in-Err-clause-text : goal.returns-in-Err-clause-text
returns-in-Err-clause-text g c = sync_ended c.args.place.now c.args.replica.now c.sync_all-ended.new.replica c.in-Err.end _ _ c.in-Err.ensures.text

pub returns-in-Err-clause-hung_up : goal.returns-in-Err-clause-hung_up
returns-in-Err-clause-hung_up g c = c.in-Err.ensures.text.gains.hung_up

pub returns-in-Err-clause-sound : goal.returns-in-Err-clause-sound
returns-in-Err-clause-sound g c = let t = c.in-Err.ensures.text in goes_on _ _ c.confirmed-confirmed.ensures.sound (sync_keeps _ _ _ _ _ t.text)

pub returns-in-Err-clause-never : goal.returns-in-Err-clause-never
returns-in-Err-clause-never g c = let t = c.in-Err.ensures.text in sync_never _ _ _ _ _ t.text
