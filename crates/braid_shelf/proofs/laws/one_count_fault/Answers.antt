use Rattle.braid_shelf.proofs.Narrowed.{one_count_fault, count_not_both}
use Rattle.braid_shelf.proofs.laws.one_count_fault.Goals as goal

pub returns : goal.returns
returns c = record { fault = one_count_fault; none = count_not_both }
