use Rattle.std.proofs.Common.{arith}
use Rattle.braid_change.proofs.Written.{parents_more, none_within}
use Rattle.braid_http.proofs.reply.push_list.Goals as goal

pub loop-n-preserved : goal.loop-n-preserved
loop-n-preserved c = parents_more _ _ _ _ _ _ _ _ c.in-Some.ensures.value c.loop-n.invariant c.gap_before.ensures.value c.in_ok-push.ensures.ok c.in_ok-push_id.ensures.ok

pub returns-in_default : goal.returns-in_default
returns-in_default c = absurd (none_within c.args.ids.now c.loop-n.n c.in_default.ensures.value (omega (arith, c.loop-n-test.true, c.len-n-end.ensures.len)))
