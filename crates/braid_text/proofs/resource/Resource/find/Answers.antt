use Rattle.std.proofs.Common.{◌≡◌, List, Some, IfSome, slice_get, ap, subst, ◌∙◌}
use Rattle.braid_graph.specs.Entries.{GraphEntry, ids_of}
use Rattle.braid_text.specs.Histories.{graph_of}
use Rattle.braid_text.proofs.resource.Resource.find.Goals as goal

pub returns-clause-found : goal.returns-clause-found
returns-clause-found c = subst (λ (t : List GraphEntry). IfSome c.index_of.result (λ n. slice_get (ids_of t) n ≡ Some c.args.id.now)) (c.self.invariant.0.graph ∙ ap graph_of c.self.view_is) c.index_of.ensures.found
