use Rattle.braid_fields.proofs.ForStreams.{field_not_status, field_not_empty, status_not_empty}
use Rattle.braid_fields.proofs.laws.lines_apart.Goals as goal

pub returns : goal.returns
returns c = record { field = field_not_status; empty = field_not_empty; status = status_not_empty }
