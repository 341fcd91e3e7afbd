use Rattle.std.proofs.Common.{sym}
use Rattle.std.proofs.lemmas.Bool.{ltb-true, ltb-false}
use Rattle.braid_world.proofs.Nth.{get_read, get_far}
use Rattle.braid_world.proofs.replica_calls.reply_at.Goals as goal

pub returns-in-Some : goal.returns-in-Some
returns-in-Some c = record { found = sym (get_read c.args.replies.now c.args.k c.in-Some.reply.now (ltb-true _ _ (sym c.in-Some.ensures.lookup.0)) c.in-Some.ensures.lookup.1) }

pub returns-in-None : goal.returns-in-None
returns-in-None c = record { found = sym (get_far c.args.replies.now c.args.k (ltb-false _ _ (sym c.in-None.ensures.lookup.0))) }
