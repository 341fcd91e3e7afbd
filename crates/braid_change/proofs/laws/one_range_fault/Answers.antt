use Rattle.braid_change.proofs.OneFault.{range_fault_one}
use Rattle.braid_change.proofs.laws.one_range_fault.Goals as goal

pub returns : goal.returns
returns c = record { law = range_fault_one }
