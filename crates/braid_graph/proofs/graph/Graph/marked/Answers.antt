use Rattle.std.proofs.Common.{sym, ◌∙◌}
use Rattle.braid_graph.proofs.Whole.{whole_ok}
use Rattle.braid_graph.proofs.RunPieces.{pieces_few, pieces_ok}
use Rattle.braid_graph.proofs.graph.Graph.marked.Goals as goal

pub returns-then-heads_among-width-clause-ok : goal.returns-then-heads_among-width-clause-ok
returns-then-heads_among-width-clause-ok c =
    whole_ok c.args.self.now c.args.of.now c.all_numbers.result c.heads_among.ensures.history c.heads_among.ensures.rising c.requires.held (sym c.heads_among.ensures.count ∙ c.if-heads_among-width.true ∙ c.width.ensures.width) c.all_numbers.ensures.size c.all_numbers.ensures.ok

pub returns-then-heads_among-width-clause-pieces : goal.returns-then-heads_among-width-clause-pieces
returns-then-heads_among-width-clause-pieces c = pieces_ok c.args.self.now c.args.of.now c.all_numbers.result (returns-then-heads_among-width-clause-ok c)

pub returns-in-Some-clause-pieces : goal.returns-in-Some-clause-pieces
returns-in-Some-clause-pieces c = pieces_few c.args.self.now c.args.of.now c.in-Some.marks c.in-Some.ensures.ok

pub returns-in-None-clause-pieces : goal.returns-in-None-clause-pieces
returns-in-None-clause-pieces c = pieces_ok c.args.self.now c.args.of.now c.walked.result c.walked.ensures.ok
