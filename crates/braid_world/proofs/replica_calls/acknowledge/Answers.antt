use Rattle.std.proofs.Common.{ap}
use Rattle.std.specs.Option.{option_copied}
use Rattle.braid_world.proofs.Told.{ack_none, ack_other, ack_far, ack_there}
use Rattle.braid_world.proofs.replica_calls.acknowledge.Goals as goal

pub returns-in_default : goal.returns-in_default
returns-in_default c = record { told = ack_none (option_copied c.args.reply) c.args.replicas.now (ap option_copied c.in_default.is) }

pub returns-then-reply-ne200 : goal.returns-then-reply-ne200
returns-then-reply-ne200 c = record { told = ack_other (option_copied c.args.reply) c.in-Some.reply.now c.args.replicas.now (ap option_copied c.in-Some.is) c.if-reply-ne200.true }

pub returns-then-at-replicas : goal.returns-then-at-replicas
returns-then-at-replicas c = record {
  told = ack_there (option_copied c.args.reply) c.in-Some.reply.now c.args.replicas.now c.index-replicas-at.result c.acked-moved.new.self (ap option_copied c.in-Some.is) c.if-reply-ne200.false c.if-at-replicas.true c.index-replicas-at.is c.acked-moved.ensures.moved;
}

pub returns-else-at-replicas : goal.returns-else-at-replicas
returns-else-at-replicas c = record { told = ack_far (option_copied c.args.reply) c.in-Some.reply.now c.args.replicas.now (ap option_copied c.in-Some.is) c.if-reply-ne200.false c.if-at-replicas.false }
