use Rattle.std.proofs.Common.{List, ℕ, Option, ap, ◌∙◌}
use Rattle.braid_outbox.specs.Writes.{merged_of}
use Rattle.braid_outbox.proofs.ReadNow.{if_ok}
use Rattle.braid_outbox.proofs.replica.Replica.merged_ids.Goals as goal

pub returns-in-Some-clause-ok : goal.returns-in-Some-clause-ok
returns-in-Some-clause-ok c = if_ok _ _ c.merged.result (λ ids e. e ∙ ap (λ (o : Option (List ℕ)). merged_of o c.args.of.now) c.in-Some.ensures.last) c.merged.ensures.ok

pub returns-in-None-clause-ok : goal.returns-in-None-clause-ok
returns-in-None-clause-ok c = if_ok _ _ c.least.result (λ ids e. e ∙ ap (λ (o : Option (List ℕ)). merged_of o c.args.of.now) c.in-None.ensures.last) c.least.ensures.ok
