use Rattle.std.proofs.lemmas.Result.{err_from_is_err_and}
use Rattle.braid_fields.proofs.Planned.{passed}
use Rattle.braid_fields.proofs.NameRows.{printable_of, names_id_fault, names_parents_fault, names_done}
use Rattle.braid_fields.proofs.names.names.Goals as goal

pub version_id-requires : goal.version_id-requires
version_id-requires c = record { printable = printable_of _ _ c.in_ok-version.ensures.strings }

pub returns-in_err-id : goal.returns-in_err-id
returns-in_err-id c =
    let q = err_from_is_err_and c.from_residual-in_err-id.result c.from_residual-in_err-id.ensures.1 in
    record { names = passed _ _ q.0 c.in_err-id.field-0.0 q.1 q.2 (names_id_fault c.args.parts.now c.in_ok-version.version c.in_ok-parents.parents c.in_err-id.field-0.0 c.in_ok-version.ensures.strings c.in_ok-parents.ensures.strings c.in_err-id.ensures.id) }

pub parents_of-requires : goal.parents_of-requires
parents_of-requires c = record { printable = printable_of _ _ c.in_ok-parents.ensures.strings }

pub returns-in_err-parents-2 : goal.returns-in_err-parents-2
returns-in_err-parents-2 c =
    let q = err_from_is_err_and c.from_residual-in_err-parents-2.result c.from_residual-in_err-parents-2.ensures.1 in
    let found = names_parents_fault c.args.parts.now c.in_ok-version.version c.in_ok-parents.parents c.in_ok-id.id c.in_err-parents-2.field-0.0 c.in_ok-version.ensures.strings c.in_ok-parents.ensures.strings c.in_ok-id.ensures.id c.in_err-parents-2.ensures.parents in
    record { names = passed _ _ q.0 c.in_err-parents-2.field-0.0 q.1 q.2 found }

pub returns : goal.returns
returns c =
    record { names = names_done c.args.parts.now c.in_ok-version.version c.in_ok-parents.parents c.in_ok-id.id c.in_ok-parents-2.parents c.in_ok-version.ensures.strings c.in_ok-parents.ensures.strings c.in_ok-id.ensures.id c.in_ok-parents-2.ensures.parents }
