use Rattle.std.proofs.Common.{◌∙◌, subst}
use Rattle.braid_graph.specs.Entries.{HoldsAll}
use Rattle.braid_text.specs.Standing.{rows_in, row_deletions_in}
use Rattle.braid_text.proofs.Viewed.{text_seen}
use Rattle.braid_text.proofs.history.History.read.Goals as goal

pub returns-in-Ok-text-clause-ok : goal.returns-in-Ok-text-clause-ok
returns-in-Ok-text-clause-ok c = (subst (λ es. HoldsAll es c.args.at.now) c.requires.stands.graph c.in-Ok.ensures.ok.held, c.of.ensures.value ∙ c.in-Ok-text.ensures.ok ∙ text_seen c.args.self.now.updates.items c.args.self.now.graph (c.args.self.now.document.stamps) (rows_in c.args.self.now.document) (row_deletions_in c.args.self.now.document) c.requires.stands c.args.at.now c.in-Ok.marks c.in-Ok.ensures.ok)
