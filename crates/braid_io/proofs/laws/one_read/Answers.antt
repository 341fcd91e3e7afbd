use Rattle.braid_io.proofs.Outcomes.{read_once}
use Rattle.braid_io.proofs.laws.one_read.Goals as goal

pub returns : goal.returns
returns c = record { law = read_once }
