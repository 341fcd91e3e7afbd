use Rattle.braid_fields.proofs.KnownFields.{field_added}
use Rattle.braid_fields.proofs.parts.HeadFields.add.Goals as goal

pub returns-clause-ok : goal.returns-clause-ok
returns-clause-ok c = field_added _ _ _ _ _ _ c.of.ensures c.put.ensures.ok
