use Rattle.braid_fields.proofs.Contents.{empty_law}
use Rattle.braid_fields.proofs.laws.empty_lines.Goals as goal

pub returns : goal.returns
returns c = record { law = empty_law }
