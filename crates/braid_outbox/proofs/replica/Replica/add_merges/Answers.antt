use Rattle.std.proofs.Common.{arith}
use Rattle.braid_outbox.proofs.Written.{merge_number, merge_added, all_added}
use Rattle.braid_outbox.proofs.replica.Replica.add_merges.Goals as goal

pub add_merge-requires : goal.add_merge-requires
add_merge-requires c = record { number = merge_number c.args.self.now c.agent-agent.ensures.valid c.confirmed-confirmed.ensures.sound c.args.count c.args.number c.requires.count c.requires.number c.requires.numbers c.loop-n.self c.loop-n.n (omega (arith, c.loop-n-test.true)) c.loop-n.invariant }

pub loop-n-preserved : goal.loop-n-preserved
loop-n-preserved c = merge_added c.args.self.now c.agent-agent.ensures.valid c.confirmed-confirmed.ensures.sound c.args.count c.args.number c.requires.count c.requires.number c.requires.numbers c.loop-n.self c.add_merge.new.self c.loop-n.n (omega (arith, c.loop-n-test.true)) c.loop-n.invariant c.in_ok-add_merge.ensures.ok

pub returns-clause-ok : goal.returns-clause-ok
returns-clause-ok c = all_added c.args.self.now c.agent-agent.ensures.valid c.confirmed-confirmed.ensures.sound c.args.count c.args.number c.requires.count c.requires.number c.requires.numbers c.loop-n.self c.loop-n.n (omega (arith, c.loop-n-test.false)) c.loop-n.invariant
