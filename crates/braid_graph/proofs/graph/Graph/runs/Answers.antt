use Rattle.std.proofs.Common.{None, length, arith, ap}
use Rattle.braid_graph.specs.Inside.{entries_in}
use Rattle.braid_graph.proofs.Runs.{runs_within}
use Rattle.braid_graph.proofs.RunsKept.{starts_kept}
use Rattle.braid_graph.proofs.graph.Graph.runs.Goals as goal

pub overflow_cast-result : goal.overflow_cast-result
overflow_cast-result c =
    let own = entries_in c.self.inside.entries.entries in
    let begin = ap length c.self.invariant.0.runs.begin in
    let few = runs_within 0 None own in
    omega (arith, c.self.inside.starts.ok.0, c.len.ensures, begin, few, c.self.invariant.0.kept.few)

pub returns : goal.returns
returns c =
    let in' = c.self.inside in
    let begin = ap length (starts_kept c.args.self.now (entries_in in'.entries.entries) in'.links.items in'.heads in'.starts.items c.self.view_is c.self.invariant.0) in
    record { runs = omega (arith, in'.starts.ok.0, c.len.ensures, begin) }
