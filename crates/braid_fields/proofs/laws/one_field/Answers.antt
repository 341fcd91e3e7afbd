use Rattle.braid_fields.proofs.Computed.{field_law}
use Rattle.braid_fields.proofs.laws.one_field.Goals as goal

pub returns : goal.returns
returns c = record { law = field_law }
