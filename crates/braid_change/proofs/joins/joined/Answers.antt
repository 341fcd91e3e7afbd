use Rattle.braid_change.proofs.Runs.{joined_more, run_within}
use Rattle.braid_change.proofs.joins.joined.Goals as goal

pub split_at-requires : goal.split_at-requires
split_at-requires c = run_within _ _ _ c.run_len.ensures.len

pub loop-first-preserved : goal.loop-first-preserved
loop-first-preserved c =
    joined_more _ _ _ _ _ _ _ _ _ c.loop-first.invariant c.in-Some.ensures.value c.run_len.ensures.len c.split_at.ensures.front c.split_at.ensures.back c.in_ok-join.ensures.start c.in_ok-join.ensures.end c.in_ok-join.ensures.text c.in_ok-push.ensures.items
