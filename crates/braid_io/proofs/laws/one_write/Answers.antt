use Rattle.braid_io.proofs.Outcomes.{write_once}
use Rattle.braid_io.proofs.laws.one_write.Goals as goal

pub returns : goal.returns
returns c = record { law = write_once }
