use Rattle.std.proofs.Common.{subst, sym, ap, ◌∙◌}
use Rattle.std.proofs.lemmas.Result.{err_from_is_err_and}
use Rattle.braid_shelf.specs.Lists.{strings_in}
use Rattle.braid_shelf.specs.Stops.{IsOther}
use Rattle.braid_shelf.proofs.Listed.{no_strings, other_fault, strings_listed}
use Rattle.braid_shelf.proofs.strings.read_strings.Goals as goal

pub returns-in_err-found-clause-fault : goal.returns-in_err-found-clause-fault
returns-in_err-found-clause-fault c =
    let p = err_from_is_err_and c.from_residual.result c.from_residual.ensures.1 in
    rw (p.1, p.2) (no_strings c.in_err-found.field-0.0 c.args.value.now c.in_err-found.ensures.fault)

pub returns-in-Some-clause-fault : goal.returns-in-Some-clause-fault
returns-in-Some-clause-fault c =
    let found = c.in_ok-found.found in
    other_fault c.args.value.now found.members c.in-Some.left c.in_ok-found.ensures.ok (subst (IsOther c.args.value.now found.members) (sym c.in-Some.ensures.value) c.in_ok-found.ensures.other)

pub returns-clause-ok : goal.returns-clause-ok
returns-clause-ok c =
    let found = c.in_ok-found.found in
    let none = subst (IsOther c.args.value.now found.members) (sym c.in_default.ensures.value) c.in_ok-found.ensures.other in
    let strings = c.in_ok-strings_of.ensures.ok ∙ ap strings_in c.members.ensures.value in
    strings_listed found.members c.in_ok-strings_of.field-0.items c.args.value.now c.in_ok-found.ensures.ok none strings
