use Rattle.braid_fields.proofs.ContentRows.{count_found, count_fault}
use Rattle.braid_fields.proofs.content.told_count.Goals as goal

pub returns-in-Ok : goal.returns-in-Ok
returns-in-Ok c = record { count = count_found c.args.value.now c.in-Ok.count c.in-Ok.ensures.ok }

pub returns-in-Err-Bad : goal.returns-in-Err-Bad
returns-in-Err-Bad c = record { count = count_fault c.args.value.now c.in-Err-Bad.field-0-0 c.in-Err-Bad.field-0-1 (rw c.in-Err-Bad.field-0-is at c.in-Err-Bad.ensures.fault) }
