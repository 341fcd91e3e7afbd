use Rattle.std.proofs.Common.{◌≡◌, length, arith, sym, ap, ◌∙◌}
use Rattle.std.proofs.lemmas.List.{length-map}
use Rattle.std.specs.List.{position_from}
use Rattle.braid_change.specs.Splices.{is_past}
use Rattle.braid_tree.specs.Seen.{seen_rows, char_in}
use Rattle.braid_rebase.specs.Resolved.{row_chars}
use Rattle.braid_rebase.proofs.Joins.{joined_fewer, ranges_from, past_from}
use Rattle.braid_rebase.proofs.Reaches.{found_at_once}
use Rattle.braid_rebase.proofs.reaching.patches_reach.Goals as goal

pub returns-then-reach-len-clause-ranges : goal.returns-then-reach-len-clause-ranges
returns-then-reach-len-clause-ranges g c =
    let S = seen_rows c.args.marks.now (g.D.Document.row_deletions c.args.doc.now) (g.D.Document.rows c.args.doc.now) in
    let reach = c.in_ok-reach.reach in
    let has = c.in_ok-reach.ensures.reach in
    found_at_once S c.args.patches.now reach.ranges.items reach.places.items reach.first reach.end c.requires.shaped (c.in_ok-reach.ensures.ranges ∙ c.in_ok-list.ensures.ok) has.first has.end has.places (omega (arith, c.if-reach-len.true, c.len.ensures))

pub overflow_cast-result : goal.overflow_cast-result
overflow_cast-result g c = omega (arith, c.in-Some.ensures.bound, ap length c.deref.ensures.value, ap length c.in_ok-reach.ensures.ranges, ap length c.in_ok-list.ensures.ok, joined_fewer c.args.patches.now, c.requires.shaped.few)

pub returns-in-Some-clause-fault : goal.returns-in-Some-clause-fault
returns-in-Some-clause-fault g c =
    let S = seen_rows c.args.marks.now (g.D.Document.row_deletions c.args.doc.now) (g.D.Document.rows c.args.doc.now) in
    let e : length (row_chars S) ≡ c.len-count.result = length-map S char_in ∙ sym c.len-count.ensures.len in
    (past_from (row_chars S) c.len-count.result c.in-Some.n c.args.patches.now c.deref.result.now e (c.deref.ensures.value ∙ c.in_ok-reach.ensures.ranges ∙ c.in_ok-list.ensures.ok) (sym c.find_past.ensures.found ∙ c.in-Some.is), sym e)

pub returns-in-None-clause-ranges : goal.returns-in-None-clause-ranges
returns-in-None-clause-ranges g c =
    let S = seen_rows c.args.marks.now (g.D.Document.row_deletions c.args.doc.now) (g.D.Document.rows c.args.doc.now) in
    let count = c.len-count.result in
    ranges_from (row_chars S) count c.args.patches.now c.in_ok-reach.reach.ranges.items (length-map S char_in ∙ sym c.len-count.ensures.len) (c.in_ok-reach.ensures.ranges ∙ c.in_ok-list.ensures.ok)
    (ap (position_from (is_past count) 0) (sym c.deref.ensures.value) ∙ sym c.find_past.ensures.found ∙ c.in-None.is)
