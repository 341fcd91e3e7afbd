use Rattle.std.proofs.lemmas.Result.{err_from_is_err_and}
use Rattle.braid_fields.proofs.Planned.{passed}
use Rattle.braid_fields.proofs.NameRows.{printable_of, no_list, list_is}
use Rattle.braid_fields.proofs.names.list_ids.Goals as goal

pub set_of-requires : goal.set_of-requires
set_of-requires c = record { printable = printable_of _ _ c.in_ok-strings.ensures.strings }

pub returns-in_err-strings : goal.returns-in_err-strings
returns-in_err-strings c =
    let q = err_from_is_err_and c.from_residual.result c.from_residual.ensures.1 in
    record { ids = passed _ _ q.0 c.in_err-strings.field-0.0 q.1 q.2 (no_list c.args.values.now c.in_err-strings.field-0.0 c.in_err-strings.ensures.strings) }

pub returns : goal.returns
returns c = record { ids = list_is c.args.values.now c.in_ok-strings.strings c.set_of.result c.in_ok-strings.ensures.strings c.set_of.ensures.set }
