use Rattle.braid_grammar.proofs.Puts.{gap_told}
use Rattle.braid_grammar.proofs.put.is_gap.Goals as goal

pub returns : goal.returns
returns c = record { gap = gap_told c.is_empty.result c.args.bytes.now c.after_gap.result.now c.after_gap.ensures c.is_empty.ensures }
