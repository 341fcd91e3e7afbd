use Rattle.braid_outbox.proofs.Written.{other_pushed, same_left}
use Rattle.braid_outbox.proofs.merging.push_other.Goals as goal

pub returns-then-ne : goal.returns-then-ne
returns-then-ne c = record { ok = other_pushed c.args.last.now c.args.id.now c.in_ok-copy.field-0 c.args.ids.now.items c.push.new.self.items c.if-ne.ensures c.in_ok-copy.ensures.ok c.in_ok-push.ensures.items }

pub returns : goal.returns
returns c = record { ok = same_left c.args.last.now c.args.id.now c.args.ids.now.items c.if-ne.ensures }
