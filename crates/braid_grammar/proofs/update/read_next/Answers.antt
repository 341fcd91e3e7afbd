use Rattle.braid_grammar.proofs.ReadUpdates.{next_found}
use Rattle.braid_grammar.proofs.update.read_next.Goals as goal

pub returns : goal.returns
returns c = next_found c.read_update.result c.args.at c.args.bytes.now c.after_gap-start.result.now c.after_gap-start.ensures c.read_update.ensures
