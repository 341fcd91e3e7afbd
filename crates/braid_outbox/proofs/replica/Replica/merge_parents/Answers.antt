use Rattle.braid_outbox.proofs.Written.{parents_ok}
use Rattle.braid_outbox.proofs.replica.Replica.merge_parents.Goals as goal

pub returns : goal.returns
returns c = record { ok = parents_ok c.args.self.now c.in_ok-frontier.frontier c.in_ok-ids.ids.items c.of.result c.in_ok-frontier.ensures.ok c.in_ok-ids.ensures.ok c.of.ensures.rising c.of.ensures.same }
