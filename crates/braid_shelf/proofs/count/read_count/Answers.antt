use Rattle.std.proofs.Common.{◌∙◌}
use Rattle.std.proofs.lemmas.Result.{err_from_is_err_and}
use Rattle.braid_shelf.specs.Faults as kinds
use Rattle.braid_shelf.proofs.Outcomes.{no_count}
use Rattle.braid_shelf.proofs.count.read_count.Goals as goal

pub returns-in_err-read_found-clause-fault : goal.returns-in_err-read_found-clause-fault
returns-in_err-read_found-clause-fault c =
    let p = err_from_is_err_and c.from_residual.result c.from_residual.ensures.1 in
    rw (p.1, p.2) (no_count c.in_err-read_found.field-0.0 c.args.value.now c.in_err-read_found.ensures.fault)

pub returns-clause-fault : goal.returns-clause-fault
returns-clause-fault c =
    kinds.no_count c.args.value.now c.in_ok-read_found.field-0.members c.in_ok-read_found.ensures.ok
    (λ number e. c.in-None.ensures number (c.deref.ensures.value ∙ c.members-members.ensures.value ∙ e))
