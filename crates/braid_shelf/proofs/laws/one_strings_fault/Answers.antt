use Rattle.braid_shelf.proofs.Narrowed.{one_strings_fault, strings_not_both}
use Rattle.braid_shelf.proofs.laws.one_strings_fault.Goals as goal

pub returns : goal.returns
returns c = record { fault = one_strings_fault; none = strings_not_both }
