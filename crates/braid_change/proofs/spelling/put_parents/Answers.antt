use Rattle.std.proofs.Common.{arith}
use Rattle.braid_change.proofs.Outlets.{along}
use Rattle.braid_change.proofs.Written.{parents_next, none_within}
use Rattle.braid_change.proofs.spelling.put_parents.Goals as goal

pub loop-n-preserved : goal.loop-n-preserved
loop-n-preserved g c =
    let m = g.met.O.Outlet.more in
    along g.O.Outlet.puts _ _ _ _ (parents_next _ _ _ _ c.in-Some.ensures.value c.gap_before.ensures.value) (m _ _ _ _ _ (m _ _ _ _ _ c.loop-n.invariant c.put.ensures.put) c.put_id.ensures.puts)

pub returns-in_default : goal.returns-in_default
returns-in_default g c = absurd (none_within c.args.parents.now c.loop-n.n c.in_default.ensures.value (omega (arith, c.loop-n-test.true, c.len-n-end.ensures.len)))
