use Rattle.std.proofs.Common.{sym, ◌∙◌}
use Rattle.braid_change.proofs.Pieces.{lent_spliced, lent_within}
use Rattle.braid_change.proofs.splices.splice_patches.Goals as goal

pub cut-requires-clause-within : goal.cut-requires-clause-within
cut-requires-clause-within c = lent_within _ _ _ _ c.chars.ensures.value c.chars-2.ensures.value c.requires.listed (sym c.find_past.ensures.found ∙ c.in_default.is)

pub returns-in-Ok-clause-ok : goal.returns-in-Ok-clause-ok
returns-in-Ok-clause-ok c = lent_spliced _ _ _ _ _ c.chars.ensures.value c.chars-2.ensures.value c.requires.listed (sym c.find_past.ensures.found ∙ c.in_default.is) (c.of_scalars.ensures.value ∙ c.in-Ok.ensures.ok)
