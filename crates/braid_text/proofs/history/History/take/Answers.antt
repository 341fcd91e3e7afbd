use Rattle.std.proofs.Common.{◌++◌, ◌∷◌, [], length, arith, ap, refl, ◌∙◌}
use Rattle.braid_text.specs.Standing.{rows_in, row_deletions_in}
use Rattle.braid_text.proofs.Insertions.{insertions_resolved}
use Rattle.braid_text.proofs.Taking.{deletions_taken, over_there, deletes_kept, stands_after}
use Rattle.braid_text.proofs.history.History.take.Goals as goal

pub add_version-requires-clause-over : goal.add_version-requires-clause-over
add_version-requires-clause-over c =
    let H = c.args.self.now.updates.items in
    let es = c.args.self.now.graph in
    let vs = c.args.self.now.document.stamps in
    let rows = rows_in c.args.self.now.document in
    let ds = row_deletions_in c.args.self.now.document in
    let u = c.args.update in
    let stands = c.requires.stands in
    let t = c.requires.takable in
    over_there H es vs rows ds stands u c.args.resolved t (rows_in c.prepare.new.self.document) c.prepare.ensures.rows

pub add_version-requires-clause-there : goal.add_version-requires-clause-there
add_version-requires-clause-there c =
    let H = c.args.self.now.updates.items in
    let es = c.args.self.now.graph in
    let vs = c.args.self.now.document.stamps in
    let rows = rows_in c.args.self.now.document in
    let ds = row_deletions_in c.args.self.now.document in
    let u = c.args.update in
    let stands = c.requires.stands in
    let t = c.requires.takable in
    deletes_kept H es vs rows ds stands u c.args.resolved t (rows_in c.prepare.new.self.document) c.prepare.ensures.rows

pub returns-clause-stands : goal.returns-clause-stands
returns-clause-stands c =
    let H = c.args.self.now.updates.items in
    let es = c.args.self.now.graph in
    let vs = c.args.self.now.document.stamps in
    let rows = rows_in c.args.self.now.document in
    let ds = row_deletions_in c.args.self.now.document in
    let u = c.args.update in
    let stands = c.requires.stands in
    let t = c.requires.takable in
    stands_after H es vs rows ds stands u c.args.resolved t c.push_reserved.new.self.items c.prepare.new.self.graph (c.prepare.new.self.document.stamps) (c.add_version.new.doc.stamps) (rows_in c.prepare.new.self.document) (rows_in c.add_version.new.doc) (row_deletions_in c.prepare.new.self.document) (row_deletions_in c.add_version.new.doc) u.id c.in_ok-name.name u.parents
    (c.push_reserved.ensures.items ∙ ap (λ t. t ++ u ∷ []) c.prepare.ensures.updates) c.in_ok-name.ensures.added refl refl c.in_ok-name.ensures.named
    c.prepare.ensures.stamps c.prepare.ensures.rows c.prepare.ensures.row_deletions c.add_version.ensures.stamps c.add_version.ensures.placed c.add_version.ensures.deletions c.add_version.ensures.known (omega (arith, c.requires.versions))

pub returns-clause-runs : goal.returns-clause-runs
returns-clause-runs c =
    let H = c.args.self.now.updates.items in
    let es = c.args.self.now.graph in
    let vs = c.args.self.now.document.stamps in
    let rows = rows_in c.args.self.now.document in
    let ds = row_deletions_in c.args.self.now.document in
    let u = c.args.update in
    let stands = c.requires.stands in
    let t = c.requires.takable in
    omega (arith, c.add_version.ensures.runs, ap length c.prepare.ensures.runs, insertions_resolved t.seen.0 u.change c.args.resolved t.seen.2, deletions_taken H es vs rows ds stands u c.args.resolved t)
