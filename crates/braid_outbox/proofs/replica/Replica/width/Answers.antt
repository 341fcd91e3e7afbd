use Rattle.std.proofs.Common.{◌∙◌}
use Rattle.braid_outbox.proofs.ReadNow.{width_now}
use Rattle.braid_outbox.proofs.replica.Replica.width.Goals as goal

pub returns : goal.returns
returns c = record { width = c.width.ensures.width ∙ width_now _ _ _ _ _ c.self.invariant.kept _ c.self.view_is }
