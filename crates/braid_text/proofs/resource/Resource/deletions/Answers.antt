use Rattle.std.proofs.Common.{List, length, ap, ◌∙◌}
use Rattle.braid_change.specs.Updates.{UpdateView}
use Rattle.braid_text.specs.Histories.{deletions_of}
use Rattle.braid_text.proofs.Taking.{deletions_kept}
use Rattle.braid_text.proofs.resource.Resource.deletions.Goals as goal

pub returns : goal.returns
returns c = record { count = c.deletions.ensures.count ∙ deletions_kept _ _ _ _ _ c.self.invariant.0 ∙ ap (λ (H : List UpdateView). length (deletions_of H)) c.self.view_is }
