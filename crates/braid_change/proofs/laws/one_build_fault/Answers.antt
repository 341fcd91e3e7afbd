use Rattle.braid_change.proofs.Built.{fault_one, built_faultless, built_or_fault}
use Rattle.braid_change.proofs.laws.one_build_fault.Goals as goal

pub returns : goal.returns
returns c = record { one = fault_one; faultless = built_faultless; either = built_or_fault }
