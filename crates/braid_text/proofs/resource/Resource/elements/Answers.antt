use Rattle.std.proofs.Common.{List, length, ap, ◌∙◌}
use Rattle.braid_change.specs.Updates.{UpdateView}
use Rattle.braid_text.specs.Histories.{elements_of}
use Rattle.braid_text.proofs.Taking.{elements_kept}
use Rattle.braid_text.proofs.resource.Resource.elements.Goals as goal

pub returns : goal.returns
returns c = record { count = c.elements.ensures.count ∙ elements_kept _ _ _ _ _ c.self.invariant.0 ∙ ap (λ (H : List UpdateView). length (elements_of H)) c.self.view_is }
