use Rattle.std.proofs.Common.{arith, ap, length, ◌∙◌}
use Rattle.braid_outbox.proofs.HeadMarks.{head_there, head_next, heads_few}
use Rattle.braid_outbox.proofs.Wholes.{heads_now}
use Rattle.braid_outbox.proofs.replica.Replica.head_ids.Goals as goal

pub unreachable-requires : goal.unreachable-requires
unreachable-requires c = let in' = c.self.inside in
    head_there in'.resource in'.order.heads.flags.items c.self.invariant.marks.size c.in_ok-numbers.numbers.items c.as_slice-number-items.result.now c.as_slice-number-items.ensures.value c.in_ok-numbers.ensures.ok c.loop-number.number-index (omega (arith, c.loop-number-test.true)) c.in_default.ensures.value

pub loop-number-preserved : goal.loop-number-preserved
loop-number-preserved c = let in' = c.self.inside in
    head_next in'.resource c.as_slice-number-items.result.now c.loop-number.number-index c.in-Some.update.now c.in_ok-copy.field-0 c.loop-number.ids.items c.push.new.self.items (omega (arith, c.loop-number-test.true)) c.in-Some.ensures.value (c.in_ok-copy.ensures.ok ∙ c.id.ensures.value) c.in_ok-push.ensures.items c.loop-number.invariant

pub returns-clause-ok : goal.returns-clause-ok
returns-clause-ok c = heads_now _ _ _ _ _ _ _ c.self.invariant c.args.self.now c.self.view_is c.in_ok-numbers.numbers.items c.as_slice-number-items.result.now c.as_slice-number-items.ensures.value c.in_ok-numbers.ensures.ok c.loop-number.number-index (omega (arith, c.loop-number-test.false)) c.loop-number.ids.items c.loop-number.invariant

pub returns-clause-few : goal.returns-clause-few
returns-clause-few c =
    let few = heads_few c.self.inside.resource c.as_slice-number-items.result.now c.loop-number.number-index c.loop-number.ids.items c.loop-number.invariant in
    omega (arith, few, ap length c.as_slice-number-items.ensures.value, c.in_ok-numbers.ensures.few, c.self.invariant.marks.size, c.self.invariant.kept.few, c.loop-number.ids.ok.0, c.in_ok-numbers.numbers.ok.0)
