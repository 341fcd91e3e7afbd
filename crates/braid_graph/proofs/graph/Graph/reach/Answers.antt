use Rattle.std.proofs.Common.{List, length, get_or, arith, ap}
use Rattle.std.proofs.Math.ListN.{set}
use Rattle.std.proofs.lemmas.Option.{slice_get-get_or}
use Rattle.braid_graph.specs.Entries.{GraphEntry}
use Rattle.braid_graph.specs.Inside.{entries_in, IsLinked}
use Rattle.braid_graph.proofs.Kept.{zip_length}
use Rattle.braid_graph.proofs.RunsKept.{run_kept}
use Rattle.braid_graph.proofs.Fronts.{ends_more, reaches_more}
use Rattle.braid_graph.proofs.graph.Graph.reach.Goals as goal

pub index-requires : goal.index-requires
index-requires c =
    let es = entries_in c.self.inside.entries.entries in
    let long = zip_length (IsLinked es) es c.self.inside.links.items c.self.invariant.0.kept.linked in
    let same = ap (λ (t : List GraphEntry). length t) c.self.view_is in
    omega (arith, long, same, c.self.inside.links.ok.0)

pub bounds-ends-run : goal.bounds-ends-run
bounds-ends-run c =
    let in' = c.self.inside in
    let run = run_kept c.args.self.now (entries_in in'.entries.entries) in'.links.items in'.heads in'.starts.items c.args.n c.index.result.now c.self.view_is c.self.invariant.0 c.requires.within c.index.ensures in
    omega (arith, run.1, c.requires.ends.size)

pub bounds-ends-run-2 : goal.bounds-ends-run-2
bounds-ends-run-2 c =
    let in' = c.self.inside in
    let run = run_kept c.args.self.now (entries_in in'.entries.entries) in'.links.items in'.heads in'.starts.items c.args.n c.index.result.now c.self.view_is c.self.invariant.0 c.requires.within c.index.ensures in
    omega (arith, run.1, c.requires.ends.size)

pub returns-clause-ends : goal.returns-clause-ends
returns-clause-ends c =
    let in' = c.self.inside in
    let r = c.index.result.now.run in
    let old = c.args.ends.now in
    let run = run_kept c.args.self.now (entries_in in'.entries.entries) in'.links.items in'.heads in'.starts.items c.args.n c.index.result.now c.self.view_is c.self.invariant.0 c.requires.within c.index.ensures in
    ends_more c.args.self.now old (set old r c.max.result) c.args.n r (get_or old r 0) c.requires.ends c.requires.within run.0 (slice_get-get_or old r 0 (omega (arith, run.1, c.requires.ends.size))) (ap (set old r) c.max.ensures)

pub returns-clause-reached : goal.returns-clause-reached
returns-clause-reached c =
    let in' = c.self.inside in
    let r = c.index.result.now.run in
    let old = c.args.ends.now in
    let run = run_kept c.args.self.now (entries_in in'.entries.entries) in'.links.items in'.heads in'.starts.items c.args.n c.index.result.now c.self.view_is c.self.invariant.0 c.requires.within c.index.ensures in
    reaches_more c.args.self.now old (set old r c.max.result) c.args.n r (get_or old r 0) c.requires.ends c.requires.within run.0 (slice_get-get_or old r 0 (omega (arith, run.1, c.requires.ends.size))) (ap (set old r) c.max.ensures)
