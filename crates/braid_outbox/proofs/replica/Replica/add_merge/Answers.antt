use Rattle.braid_outbox.proofs.Written.{merge_chained}
use Rattle.braid_outbox.proofs.replica.Replica.add_merge.Goals as goal

pub add_unsent-requires : goal.add_unsent-requires
add_unsent-requires c = record { chained = merge_chained c.args.self.now c.in_ok-merge.merge c.in_ok-merge.ensures.ok }
