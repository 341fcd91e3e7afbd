use Rattle.braid_sync.proofs.FollowSteps.{follow_done, follow_ended}
use Rattle.braid_sync.proofs.Kept.{follow_keeps, goes_on}
use Rattle.braid_sync.proofs.following.follow.Goals as goal

pub returns-in-Ok-clause-text : goal.returns-in-Ok-clause-text
returns-in-Ok-clause-text g c = follow_done c.args.place.now c.args.count c.args.replica.now c.follow_over-followed.new.replica c.in-Ok.field-0 c.follow_over-followed.new.lines _ _ _ _ c.in-Ok.ensures.text

pub returns-in-Ok-clause-hung_up : goal.returns-in-Ok-clause-hung_up
returns-in-Ok-clause-hung_up g c = c.in-Ok.ensures.text.gains.hung_up

pub returns-in-Ok-clause-sound : goal.returns-in-Ok-clause-sound
returns-in-Ok-clause-sound g c = let t = c.in-Ok.ensures.text in goes_on _ _ c.confirmed-confirmed.ensures.sound (follow_keeps _ _ _ _ _ _ _ _ _ t.text)

pub returns-in-Err-clause-text : goal.returns-in-Err-clause-text
returns-in-Err-clause-text g c = follow_ended c.args.place.now c.args.count c.args.replica.now c.follow_over-followed.new.replica c.in-Err.end c.follow_over-followed.new.lines _ _ _ _ c.in-Err.ensures.text

pub returns-in-Err-clause-hung_up : goal.returns-in-Err-clause-hung_up
returns-in-Err-clause-hung_up g c = c.in-Err.ensures.text.gains.hung_up

pub returns-in-Err-clause-sound : goal.returns-in-Err-clause-sound
returns-in-Err-clause-sound g c = let t = c.in-Err.ensures.text in goes_on _ _ c.confirmed-confirmed.ensures.sound (follow_keeps _ _ _ _ _ _ _ _ _ t.text)
