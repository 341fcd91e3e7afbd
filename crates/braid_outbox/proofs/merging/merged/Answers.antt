use Rattle.std.proofs.Common.{arith, refl, sym}
use Rattle.braid_ids.proofs.Members.{no_gap}
use Rattle.braid_outbox.proofs.Written.{merged_next, merged_full, merged_end}
use Rattle.braid_outbox.proofs.merging.merged.Goals as goal

pub returns-then-len-clause-ok : goal.returns-then-len-clause-ok
returns-then-len-clause-ok c = merged_full c.args.last.now c.args.of.now c.loop-n.ids.items c.loop-n.n c.loop-n.invariant (omega (arith, c.if-len.true, c.len.ensures, c.loop-n.ids.ok.0))

pub unreachable-requires : goal.unreachable-requires
unreachable-requires c = no_gap c.args.of.now c.loop-n.n (omega (arith, c.loop-n-test.true, c.len-n-end.ensures.len)) (sym c.in_default.ensures.value)

pub loop-n-preserved : goal.loop-n-preserved
loop-n-preserved c = merged_next c.args.last.now c.args.of.now c.loop-n.ids.items c.push_other.new.ids.items c.loop-n.n c.in-Some.id.now c.in-Some.id.now c.loop-n.invariant (λ e. omega (arith, e, c.if-len.false, c.len.ensures, c.loop-n.ids.ok.0)) c.in-Some.ensures.value refl c.in_ok-push_other.ensures.ok

pub returns-clause-ok : goal.returns-clause-ok
returns-clause-ok c = merged_end c.args.last.now c.args.of.now c.loop-n.ids.items c.loop-n.n c.loop-n.invariant (omega (arith, c.loop-n-test.false, c.len-n-end.ensures.len))
