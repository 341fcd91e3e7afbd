use Rattle.std.proofs.Common.{subst, sym}
use Rattle.braid_shelf.specs.Faults.{IsShelfFault}
use Rattle.braid_shelf.proofs.Outcomes.{found_list, found_other, stop_within, stop_fault}
use Rattle.braid_shelf.proofs.list.read_found.Goals as goal

pub of-requires : goal.of-requires
of-requires c = stop_within c.in-Err.stop c.args.value.now c.in-Err.ensures

pub returns-in-Ok-clause-ok : goal.returns-in-Ok-clause-ok
returns-in-Ok-clause-ok c = found_list c.args.value.now c.in-Ok.found c.in-Ok.ensures

pub returns-in-Ok-clause-other : goal.returns-in-Ok-clause-other
returns-in-Ok-clause-other c = found_other c.args.value.now c.in-Ok.found c.in-Ok.ensures

pub returns-in-Err-clause-fault : goal.returns-in-Err-clause-fault
returns-in-Err-clause-fault c = subst (IsShelfFault c.args.value.now) (sym c.of.ensures) (stop_fault c.in-Err.stop c.args.value.now c.in-Err.ensures)
