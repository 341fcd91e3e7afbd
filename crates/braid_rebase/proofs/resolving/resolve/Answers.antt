use Rattle.std.proofs.Common.{arith, subst, sym, ap, refl, ◌∙◌}
use Rattle.braid_change.specs.Splices.{ranges}
use Rattle.braid_graph.specs.Ancestries.{MarksAncestry}
use Rattle.braid_tree.specs.Seen.{seen_rows}
use Rattle.braid_rebase.specs.Resolved.{row_chars}
use Rattle.braid_rebase.proofs.Joins.{inserts_few}
use Rattle.braid_rebase.proofs.Resolves.{piece_lent, is_resolved}
use Rattle.braid_rebase.proofs.resolving.resolve.Goals as goal

pub resolve_reach-requires-clause-ranges : goal.resolve_reach-requires-clause-ranges
resolve_reach-requires-clause-ranges g c =
    let S = seen_rows c.in-Ok.marks (g.D.Document.row_deletions c.args.doc.now) (g.D.Document.rows c.args.doc.now) in
    let reach = c.in_ok-reach.reach in
    let has = c.in_ok-reach.ensures.reach in
    let e = ap (ranges (row_chars S)) (sym c.change.ensures.value) ∙ c.in_ok-reach.ensures.ranges in
    piece_lent S c.args.update.now.change reach.ranges.items reach.ranges.items reach.places.items reach.places.items reach.first reach.end c.change.ensures.valid.shaped e refl has.first has.end has.places refl

pub resolve_reach-requires-clause-few : goal.resolve_reach-requires-clause-few
resolve_reach-requires-clause-few g c =
    let S = seen_rows c.in-Ok.marks (g.D.Document.row_deletions c.args.doc.now) (g.D.Document.rows c.args.doc.now) in
    let e = ap (ranges (row_chars S)) (sym c.change.ensures.value) ∙ c.in_ok-reach.ensures.ranges in
    omega (arith, inserts_few (row_chars S) c.args.update.now.change c.in_ok-reach.reach.ranges.items c.change.ensures.valid.shaped e)

pub returns-clause-ok : goal.returns-clause-ok
returns-clause-ok g c =
    let S = seen_rows c.in-Ok.marks (g.D.Document.row_deletions c.args.doc.now) (g.D.Document.rows c.args.doc.now) in
    let reach = c.in_ok-reach.reach in
    let has = c.in_ok-reach.ensures.reach in
    let e = ap (ranges (row_chars S)) (sym c.change.ensures.value) ∙ c.in_ok-reach.ensures.ranges in (
      S,
      record { marks = c.in-Ok.marks; ancestry = subst (λ F. MarksAncestry c.args.graph.now F c.in-Ok.marks) c.parents.ensures.value c.in-Ok.ensures.ok; seen = refl },
      is_resolved S c.args.update.now.change reach.ranges.items reach.places.items reach.first reach.end _ c.change.ensures.valid.shaped e has.first has.end has.places
          c.in_ok-resolved.ensures.deletes c.in_ok-resolved.ensures.runs,
    )
