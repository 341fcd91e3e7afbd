use Rattle.std.proofs.Common.{get_or, arith, subst}
use Rattle.std.proofs.lemmas.Option.{slice_get-get_or}
use Rattle.braid_graph.specs.Entries.{IsHistoryGraph}
use Rattle.braid_graph.specs.Inside.{entries_in}
use Rattle.braid_graph.proofs.RunsKept.{start_kept}
use Rattle.braid_graph.proofs.Fronts.{reached_past, reached_behind}
use Rattle.braid_graph.proofs.graph.Graph.reach_behind.Goals as goal

pub returns-then-ends-run : goal.returns-then-ends-run
returns-then-ends-run c =
    let in' = c.self.inside in
    let es = c.args.self.now in
    let r = c.args.run in
    let s = c.index-start.result.now in
    let begins = start_kept es (entries_in in'.entries.entries) in'.links.items in'.heads in'.starts.items r s c.self.view_is c.self.invariant.0 c.requires.within c.index-start.ensures in
    let at = slice_get-get_or c.args.ends.now r 0 (omega (arith, c.requires.ends.size)) in
    record { reached = λ F has. reached_past es F r s (get_or c.args.ends.now r 0) c.args.ends.now begins at c.if-ends-run.true has }

pub returns : goal.returns
returns c =
    let in' = c.self.inside in
    let es = c.args.self.now in
    let r = c.args.run in
    let s = c.index-start.result.now in
    let begins = start_kept es (entries_in in'.entries.entries) in'.links.items in'.heads in'.starts.items r s c.self.view_is c.self.invariant.0 c.requires.within c.index-start.ensures in
    let at = slice_get-get_or c.args.ends.now r 0 (omega (arith, c.requires.ends.size)) in
    let h = subst IsHistoryGraph c.self.view_is c.self.invariant.0.kept.history in
    record { reached = λ F has. reached_behind es F r s (get_or c.args.ends.now r 0) c.args.ends.now c.reach_parents.new.ends h begins at c.if-ends-run.false has c.reach_parents.ensures.ends c.reach_parents.ensures.reached }
