use Rattle.std.proofs.Common.{subst}
use Rattle.braid_grammar.specs.Readings.{next_at}
use Rattle.braid_grammar.specs.Readers.{Finds}
use Rattle.braid_grammar.proofs.ReadStreams.{none_read, one_read, read_same, read_shorter, ends_faulty, ends_part}
use Rattle.braid_grammar.proofs.stream.read_stream.Goals as goal

pub loop-updates-init : goal.loop-updates-init
loop-updates-init c = read_same _ c.new-updates.result.items _ _ _ c.new-updates.ensures.items (none_read c.args.bytes.now)

pub returns-in-Part : goal.returns-in-Part
returns-in-Part c = record {
  ok = ends_part c.loop-updates.updates.items c.loop-updates.at c.args.bytes.now c.loop-updates.rest.now c.end_of-end.result c.loop-updates.invariant
      (subst (λ f. Finds f (next_at c.loop-updates.at c.loop-updates.rest.now)) c.in-Part.is c.in_ok-read_next.ensures) c.end_of-end.ensures;
}

pub returns-in-Bad : goal.returns-in-Bad
returns-in-Bad c = record {
  ok = ends_faulty c.loop-updates.updates.items c.loop-updates.at c.args.bytes.now c.loop-updates.rest.now c.in-Bad.at c.in-Bad.reason c.loop-updates.invariant
      (subst (λ f. Finds f (next_at c.loop-updates.at c.loop-updates.rest.now)) c.in-Bad.is c.in_ok-read_next.ensures);
}

pub loop-updates-smaller : goal.loop-updates-smaller
loop-updates-smaller c =
    read_shorter c.loop-updates.at c.loop-updates.rest.now c.in-Whole.update c.in-Whole.last c.in-Whole.left.now
    (subst (λ f. Finds f (next_at c.loop-updates.at c.loop-updates.rest.now)) c.in-Whole.is c.in_ok-read_next.ensures)

pub loop-updates-preserved : goal.loop-updates-preserved
loop-updates-preserved c =
    read_same _ c.push.new.self.items _ _ _ c.in_ok-push-in-Whole.ensures.items
    (one_read c.loop-updates.updates.items c.loop-updates.at c.args.bytes.now c.loop-updates.rest.now c.in-Whole.update c.in-Whole.last c.in-Whole.left.now c.loop-updates.invariant
    (subst (λ f. Finds f (next_at c.loop-updates.at c.loop-updates.rest.now)) c.in-Whole.is c.in_ok-read_next.ensures))
