use Rattle.std.proofs.Common.{List, refl, sym, ap, subst, ◌∙◌}
use Rattle.braid_graph.specs.Entries.{GraphEntry, HoldsAll}
use Rattle.braid_text.specs.Histories.{graph_of}
use Rattle.braid_text.proofs.resource.Resource.holds.Goals as goal

pub returns-in-Some : goal.returns-in-Some
returns-in-Some c = record { holds = (λ t. absurd (cc), λ all. absurd (c.in-Some.ensures.found.unheld (subst (λ (t : List GraphEntry). HoldsAll t c.args.at.now) (sym (c.self.invariant.0.graph ∙ ap graph_of c.self.view_is)) all _ c.in-Some.ensures.found.named))) }

pub returns-in-None : goal.returns-in-None
returns-in-None c = record { holds = (λ t. subst (λ (t : List GraphEntry). HoldsAll t c.args.at.now) (c.self.invariant.0.graph ∙ ap graph_of c.self.view_is) c.in-None.ensures.none, λ all. refl) }
