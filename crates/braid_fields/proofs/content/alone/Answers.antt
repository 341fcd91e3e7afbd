use Rattle.std.proofs.lemmas.Result.{err_from_is_err_and}
use Rattle.braid_fields.proofs.ContentRows.{reason_passed, alone_range_fault}
use Rattle.braid_fields.proofs.content.alone.Goals as goal

pub returns-in_err-range_of : goal.returns-in_err-range_of
returns-in_err-range_of c =
    let q = err_from_is_err_and c.from_residual-in_err-range_of.result c.from_residual-in_err-range_of.ensures.1 in
    record { asks = reason_passed _ _ q.0 c.in_err-range_of.field-0.0 q.1 q.2 (alone_range_fault c.args.given c.args.parts.now c.in_ok-len.len _ c.in_ok-len.ensures.len c.in_err-range_of.ensures.range) }
