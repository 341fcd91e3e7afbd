use Rattle.std.proofs.Common.{List, ℕ, subst}
use Rattle.braid_change.specs.Updates.{IsBuildFault}
use Rattle.braid_outbox.proofs.Shapes.{shaped_to}
use Rattle.braid_outbox.proofs.Written.{no_parents}
use Rattle.braid_outbox.proofs.replica.Replica.draft.Goals as goal

pub returns-in-Ok-build-clause-shaped : goal.returns-in-Ok-build-clause-shaped
returns-in-Ok-build-clause-shaped c = shaped_to c.args.change c.in-Ok-build.ensures.ok.1.shaped c.in-Ok-build.ensures.ok.1.scalar

pub returns-in-Err-clause-fault : goal.returns-in-Err-clause-fault
returns-in-Err-clause-fault c = subst (λ (ps : List (List ℕ)). IsBuildFault ps c.args.change c.in-Err.fault) (no_parents c.new.result.items c.in-Ok-of.parents c.new.ensures.items c.in-Ok-of.ensures.same) c.in-Err.ensures.fault
