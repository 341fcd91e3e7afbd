use Rattle.std.proofs.Common.{◌≤◌}
use Rattle.braid_outbox.specs.Replicas.{all_of}
use Rattle.braid_client.proofs.Slices.{lines_next}
use Rattle.braid_client.proofs.lines.wrote_text.Goals as goal

pub loop-n-preserved : goal.loop-n-preserved
loop-n-preserved c =
    let within : c.args.from ≤ c.loop-n.n = c.loop-n.auto.n in
    lines_next (all_of c.args.replica.now) c.args.from c.loop-n.n c.in-Some.update.now c.id.result.now c.loop-n.text c.push_wrote.new.text within c.in-Some.ensures.value c.loop-n.invariant c.id.ensures.value c.in_ok-push_wrote.ensures.ok
