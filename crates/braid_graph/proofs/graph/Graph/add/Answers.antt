use Rattle.std.proofs.Common.{List, sym, subst}
use Rattle.braid_graph.specs.Entries.{GraphEntry, HoldsAll}
use Rattle.braid_graph.proofs.graph.Graph.add.Goals as goal

pub put-requires-clause-held : goal.put-requires-clause-held
put-requires-clause-held c = subst (λ (t : List GraphEntry). HoldsAll t c.args.parents) (sym c.take_past-past.ensures.same) c.requires.held
