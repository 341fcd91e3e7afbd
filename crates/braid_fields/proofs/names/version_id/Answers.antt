use Rattle.braid_fields.proofs.Planned.{one_version}
use Rattle.braid_fields.proofs.names.version_id.Goals as goal

pub returns-in-len1 : goal.returns-in-len1
returns-in-len1 c = record { id = rw (← c.get.ensures.value) (one_version c.get.result.now c.get-in-len1.result.now c.string-item.result _ c.in-len1.len_at_least c.in-len1.len_below c.string-item.is c.get-in-len1.ensures.value c.read_id.ensures.id) }
