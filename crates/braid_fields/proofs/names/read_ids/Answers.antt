use Rattle.std.proofs.Common.{◌∙◌}
use Rattle.std.proofs.lemmas.Result.{err_from_is_err_and}
use Rattle.braid_fields.proofs.Planned.{none_bad, ids_more, ids_fault, refused_if}
use Rattle.braid_fields.proofs.names.read_ids.Goals as goal

pub loop-string-init : goal.loop-string-init
loop-string-init c = (c.in_ok-ids.ensures.items, none_bad)

pub returns-in_err-id-clause-fault : goal.returns-in_err-id-clause-fault
returns-in_err-id-clause-fault c =
    let q = err_from_is_err_and c.from_residual-in_err-id.result c.from_residual-in_err-id.ensures.1 in
    let found = ids_fault c.args.strings.now c.loop-string.string-index c.get.result.now c.string-item.result c.in_err-id.field-0.0 c.loop-string-test.true (c.get.ensures.value ∙ c.string-item.is) c.in_err-id.ensures.id in
    refused_if _ _ q.0 c.in_err-id.field-0.0 q.1 q.2 found

pub loop-string-preserved : goal.loop-string-preserved
loop-string-preserved c =
    ids_more c.args.strings.now c.loop-string.ids.items _ c.loop-string.string-index c.get.result.now c.in_ok-id.id c.string-item.result c.loop-string-test.true (c.get.ensures.value ∙ c.string-item.is) c.in_ok-id.ensures.id c.loop-string.invariant c.in_ok-push.ensures.items
