use Rattle.std.proofs.Common.{◌≡◌, List, IfOk, subst}
use Rattle.braid_change.specs.Updates.{UpdateView}
use Rattle.braid_graph.specs.Entries.{HoldsAll}
use Rattle.braid_text.specs.Histories.{graph_of, text_at}
use Rattle.braid_text.proofs.resource.Resource.read.Goals as goal

pub returns-clause-ok : goal.returns-clause-ok
returns-clause-ok c = subst (λ (H : List UpdateView). IfOk c.read.result (λ text. HoldsAll (graph_of H) c.args.at.now × (text ≡ text_at H c.args.at.now))) c.self.view_is c.read.ensures.ok
