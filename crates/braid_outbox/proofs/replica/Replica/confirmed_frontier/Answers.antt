use Rattle.braid_outbox.proofs.ReadNow.{frontier_ok}
use Rattle.braid_outbox.proofs.replica.Replica.confirmed_frontier.Goals as goal

pub returns : goal.returns
returns c = record { ok = frontier_ok _ _ c.of.result c.in_ok-ids.ensures.ok c.of.ensures.rising c.of.ensures.same }
