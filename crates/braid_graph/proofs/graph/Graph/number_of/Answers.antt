use Rattle.std.proofs.Common.{sym}
use Rattle.braid_ids.proofs.Members.{member_at, member_contains}
use Rattle.braid_graph.proofs.Marked.{number_within}
use Rattle.braid_graph.proofs.graph.Graph.number_of.Goals as goal

pub unreachable-requires-in_default-index_of : goal.unreachable-requires-in_default-index_of
unreachable-requires-in_default-index_of c =
    let at = sym c.in-Some.ensures.value in
    c.in_default-index_of.ensures.none (c.requires.held c.in-Some.id.now (member_contains c.args.of.now c.in-Some.id.now (member_at c.args.of.now c.args.i c.in-Some.id.now at)))

pub returns-clause-number : goal.returns-clause-number
returns-clause-number c = (c.in-Some.id.now, sym c.in-Some.ensures.value, c.in-Some-index_of.ensures.found)

pub returns-clause-within : goal.returns-clause-within
returns-clause-within c = number_within c.args.self.now c.in-Some.id.now c.in-Some-index_of.n c.in-Some-index_of.ensures.found
