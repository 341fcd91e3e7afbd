use Rattle.std.proofs.Common.{get_or, arith, ◌∙◌}
use Rattle.std.proofs.lemmas.Option.{slice_get-get_or}
use Rattle.braid_graph.specs.Inside.{entries_in}
use Rattle.braid_graph.proofs.RunsKept.{start_kept}
use Rattle.braid_graph.proofs.Fronts.{fronts_more, fronts_skip, fronts_all}
use Rattle.braid_graph.proofs.graph.Graph.fronts.Goals as goal

pub add-requires-clause-within : goal.add-requires-clause-within
add-requires-clause-within c =
    let r = c.loop-run.run in
    let low = c.requires.ends.within r (get_or c.args.ends.now r 0) (slice_get-get_or c.args.ends.now r 0 c.loop-run-test.true) in
    omega (arith, c.loop-run.invariant.size, low)

pub loop-run-preserved-then-end-start : goal.loop-run-preserved-then-end-start
loop-run-preserved-then-end-start c =
    let in' = c.self.inside in
    let r = c.loop-run.run in
    let s = c.index-start.result.now in
    let begins = start_kept c.args.self.now (entries_in in'.entries.entries) in'.links.items in'.heads in'.starts.items r s c.self.view_is c.self.invariant.0 (omega (arith, c.requires.ends.size)) c.index-start.ensures in
    record {
      size = c.loop-run.invariant.size;
      so_far = fronts_skip c.args.self.now c.args.ends.now r s (get_or c.args.ends.now r 0) c.loop-run.marks begins (slice_get-get_or c.args.ends.now r 0 c.loop-run-test.true) c.if-end-start.true c.loop-run.invariant.so_far;
    }

pub loop-run-preserved : goal.loop-run-preserved
loop-run-preserved c =
    let in' = c.self.inside in
    let r = c.loop-run.run in
    let s = c.index-start.result.now in
    let begins = start_kept c.args.self.now (entries_in in'.entries.entries) in'.links.items in'.heads in'.starts.items r s c.self.view_is c.self.invariant.0 (omega (arith, c.requires.ends.size)) c.index-start.ensures in
    record {
      size = c.in_ok-add.ensures.size ∙ c.loop-run.invariant.size;
      so_far = fronts_more c.args.self.now c.args.ends.now r s (get_or c.args.ends.now r 0) c.loop-run.marks c.add.new.self begins (slice_get-get_or c.args.ends.now r 0 c.loop-run-test.true) c.loop-run.invariant.so_far c.in_ok-add.ensures.ok;
    }

pub returns-clause-ok : goal.returns-clause-ok
returns-clause-ok c = fronts_all c.args.self.now c.args.ends.now c.loop-run.run c.loop-run.marks (omega arith) c.loop-run.invariant.so_far
