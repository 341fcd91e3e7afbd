use Rattle.braid_session.proofs.Replying.{writable_refusal}
use Rattle.braid_session.proofs.serve.refusal_bytes.Goals as goal

pub reply_bytes-requires : goal.reply_bytes-requires
reply_bytes-requires c = record { writable = rw c.in_ok-reply.ensures.ok (writable_refusal c.args.refusal) }
