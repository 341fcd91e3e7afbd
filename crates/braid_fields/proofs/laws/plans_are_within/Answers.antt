use Rattle.braid_fields.proofs.PlanLimits.{head_within, put_within, patch_within}
use Rattle.braid_fields.proofs.laws.plans_are_within.Goals as goal

pub returns : goal.returns
returns c = record { head = head_within; put = put_within; patch = patch_within }
