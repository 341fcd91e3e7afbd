use Rattle.std.proofs.Common.{◌≤◌}
use Rattle.braid_outbox.specs.Replicas.{all_of}
use Rattle.braid_client.proofs.Slices.{entries_next}
use Rattle.braid_client.proofs.keeping.entries.Goals as goal

pub loop-n-preserved : goal.loop-n-preserved
loop-n-preserved c =
    let within : c.args.from ≤ c.loop-n.n = c.loop-n.auto.n in
    entries_next (all_of c.args.replica.now) c.args.from c.loop-n.n c.in-Some.update.now c.in_ok-copy.field-0 c.loop-n.list.items c.push.new.self.items within c.in-Some.ensures.value c.loop-n.invariant c.in_ok-copy.ensures.ok c.in_ok-push.ensures.items
