use Rattle.std.proofs.Common.{◌∙◌, sym}
use Rattle.braid_frame.proofs.Stood.{body_completed, patch_goes}
use Rattle.braid_frame.proofs.contents.end_text.Goals as goal

pub complete-requires-clause-stands : goal.complete-requires-clause-stands
complete-requires-clause-stands c = (
  c.requires.stands.0,
  c.requires.stands.1,
  body_completed _ _ c.in-Body.begun c.in-Body.field-1 _ _ _ _ _ (sym c.pass_over.ensures.phase ∙ sym c.replace.ensures.value ∙ c.in-Body.is) c.requires.content c.requires.text c.pass_over.ensures.at c.requires.stands.2,
)

pub end_patch-requires-clause-stands : goal.end_patch-requires-clause-stands
end_patch-requires-clause-stands c = (
  c.requires.stands.0,
  c.requires.stands.1,
  patch_goes _ _ c.in-PatchContent.patching c.in-PatchContent.plan _ _ _ _ _ (sym c.pass_over.ensures.phase ∙ sym c.replace.ensures.value ∙ c.in-PatchContent.is) c.requires.content c.requires.text c.pass_over.ensures.at c.requires.stands.2,
)

pub returns-in-Body-clause-finishes : goal.returns-in-Body-clause-finishes
returns-in-Body-clause-finishes c us b s =
    c.complete.ensures.finishes us b
    (body_completed us _ c.in-Body.begun c.in-Body.field-1 _ _ _ _ b (sym c.pass_over.ensures.phase ∙ sym c.replace.ensures.value ∙ c.in-Body.is) c.requires.content c.requires.text c.pass_over.ensures.at s)

pub returns-in-PatchContent-clause-finishes : goal.returns-in-PatchContent-clause-finishes
returns-in-PatchContent-clause-finishes c us b s =
    c.end_patch.ensures.finishes us b
    (patch_goes us _ c.in-PatchContent.patching c.in-PatchContent.plan _ _ _ _ b (sym c.pass_over.ensures.phase ∙ sym c.replace.ensures.value ∙ c.in-PatchContent.is) c.requires.content c.requires.text c.pass_over.ensures.at s)
