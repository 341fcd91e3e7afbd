use Rattle.braid_grammar.proofs.ReadLines.{head_found, head_within}
use Rattle.braid_grammar.proofs.head.read_head.Goals as goal

pub found_head-requires-clause-within : goal.found_head-requires-clause-within
found_head-requires-clause-within c = head_within c.args.kind c.min.result c.args.bytes.now c.in_ok-said.said c.in_ok-said.ensures

pub returns : goal.returns
returns c = head_found c.args.kind c.min.result c.args.at c.args.bytes.now c.in_ok-said.said c.found_head.result c.min.ensures c.in_ok-said.ensures c.found_head.ensures
