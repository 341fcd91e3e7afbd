use Rattle.braid_io.proofs.Outcomes.{pure_read_once}
use Rattle.braid_io.proofs.laws.one_pure_read.Goals as goal

pub returns : goal.returns
returns c = record { law = pure_read_once }
