use Rattle.std.proofs.Common.{sym}
use Rattle.braid_fields.proofs.RangeReading.{range_found, unit_fault, form_fault, number_fault}
use Rattle.braid_fields.proofs.range.one_range.Goals as goal

pub returns-in-Ok : goal.returns-in-Ok
returns-in-Ok c = record { range = sym (range_found c.args.value.now c.in-Ok.start c.in-Ok.end c.in-Ok.ensures.ok) }

pub returns-in-Err-Unit : goal.returns-in-Err-Unit
returns-in-Err-Unit c = record { range = sym (unit_fault c.args.value.now (rw c.in-Err-Unit.field-0-is at c.in-Err-Unit.ensures.fault)) }

pub returns-in-Err-Form : goal.returns-in-Err-Form
returns-in-Err-Form c = record { range = sym (form_fault c.args.value.now c.in-Err-Form.field-0-0 (rw c.in-Err-Form.field-0-is at c.in-Err-Form.ensures.fault)) }

pub returns-in-Err-Number : goal.returns-in-Err-Number
returns-in-Err-Number c = record { range = sym (number_fault c.args.value.now (rw c.in-Err-Number.field-0-is at c.in-Err-Number.ensures.fault)) }
