use Rattle.std.proofs.Common.{arith, ap, ◌∙◌}
use Rattle.braid_text.specs.Puts.{total_len}
use Rattle.braid_text.specs.Standing.{rows_in, row_deletions_in}
use Rattle.braid_text.proofs.Taking.{versions_kept, elements_kept, deletions_kept, fresh_there, parents_kept, deletions_taken, elements_taken, few_taken}
use Rattle.braid_text.proofs.history.History.prepare.Goals as goal

pub total_len-requires : goal.total_len-requires
total_len-requires c =
    let H = c.args.self.now.updates.items in
    let es = c.args.self.now.graph in
    let vs = c.args.self.now.document.stamps in
    let rows = rows_in c.args.self.now.document in
    let ds = row_deletions_in c.args.self.now.document in
    let u = c.args.update.now in
    let stands = c.requires.stands in
    let t = c.requires.takable in
    record { few = omega (arith, few_taken H es vs rows ds stands u c.args.resolved.now t, ap total_len c.deref.ensures.value) }

pub overflow_cast-len : goal.overflow_cast-len
overflow_cast-len c =
    let H = c.args.self.now.updates.items in
    let es = c.args.self.now.graph in
    let vs = c.args.self.now.document.stamps in
    let rows = rows_in c.args.self.now.document in
    let ds = row_deletions_in c.args.self.now.document in
    let u = c.args.update.now in
    let stands = c.requires.stands in
    let t = c.requires.takable in
    omega (arith, c.len.ensures, c.args.resolved.now.deletes.ok.0, deletions_taken H es vs rows ds stands u c.args.resolved.now t, c.requires.deletions)

pub reserve-requires-clause-few_versions : goal.reserve-requires-clause-few_versions
reserve-requires-clause-few_versions c =
    let H = c.args.self.now.updates.items in
    let es = c.args.self.now.graph in
    let vs = c.args.self.now.document.stamps in
    let rows = rows_in c.args.self.now.document in
    let ds = row_deletions_in c.args.self.now.document in
    let u = c.args.update.now in
    let stands = c.requires.stands in
    let t = c.requires.takable in
    omega (arith, versions_kept H es vs rows ds stands, c.requires.versions)

pub reserve-requires-clause-few_elements : goal.reserve-requires-clause-few_elements
reserve-requires-clause-few_elements c =
    let H = c.args.self.now.updates.items in
    let es = c.args.self.now.graph in
    let vs = c.args.self.now.document.stamps in
    let rows = rows_in c.args.self.now.document in
    let ds = row_deletions_in c.args.self.now.document in
    let u = c.args.update.now in
    let stands = c.requires.stands in
    let t = c.requires.takable in
    omega (arith, elements_kept H es vs rows ds stands, c.total_len.ensures.len, elements_taken H es vs rows ds stands u c.args.resolved.now t, ap total_len c.deref.ensures.value, c.requires.elements)

pub reserve-requires-clause-few_deletions : goal.reserve-requires-clause-few_deletions
reserve-requires-clause-few_deletions c =
    let H = c.args.self.now.updates.items in
    let es = c.args.self.now.graph in
    let vs = c.args.self.now.document.stamps in
    let rows = rows_in c.args.self.now.document in
    let ds = row_deletions_in c.args.self.now.document in
    let u = c.args.update.now in
    let stands = c.requires.stands in
    let t = c.requires.takable in
    omega (arith, deletions_kept H es vs rows ds stands, c.len.ensures, c.args.resolved.now.deletes.ok.0, deletions_taken H es vs rows ds stands u c.args.resolved.now t, c.requires.deletions)

pub add-requires-clause-new : goal.add-requires-clause-new
add-requires-clause-new c =
    let H = c.args.self.now.updates.items in
    let es = c.args.self.now.graph in
    let vs = c.args.self.now.document.stamps in
    let rows = rows_in c.args.self.now.document in
    let ds = row_deletions_in c.args.self.now.document in
    let u = c.args.update.now in
    let stands = c.requires.stands in
    let t = c.requires.takable in
    fresh_there H es vs rows ds stands u c.args.resolved.now t c.in_ok-id.id (c.in_ok-id.ensures.ok ∙ c.id-2.ensures.value)

pub add-requires-clause-held : goal.add-requires-clause-held
add-requires-clause-held c =
    let H = c.args.self.now.updates.items in
    let es = c.args.self.now.graph in
    let vs = c.args.self.now.document.stamps in
    let rows = rows_in c.args.self.now.document in
    let ds = row_deletions_in c.args.self.now.document in
    let u = c.args.update.now in
    let stands = c.requires.stands in
    let t = c.requires.takable in
    parents_kept H es vs rows ds stands u c.args.resolved.now t c.in_ok-parents.parents (c.in_ok-parents.ensures.ok ∙ c.parents.ensures.value)
