use Rattle.std.proofs.Common.{refl, ◌∙◌, sym}
use Rattle.braid_frame.proofs.HeadEnds.{patch_head_stands, patch_head_used, patch_head_faulty, refused_finishes}
use Rattle.braid_frame.proofs.steps.end_patch_head.Goals as goal

pub begin_content-requires-clause-content : goal.begin_content-requires-clause-content
begin_content-requires-clause-content c = (refl, patch_head_used c.args.state.now.phase c.in-PatchLines.patching c.args.used c.args.before c.deref.result.now c.in-Ok.plan (sym c.pass_over.ensures.phase ∙ sym c.replace.ensures.value ∙ c.in-PatchLines.is) c.requires.phase c.in-Ok.ensures.plan)

pub begin_content-requires-clause-stands : goal.begin_content-requires-clause-stands
begin_content-requires-clause-stands c = (
  c.requires.stands.0,
  c.requires.stands.1,
  patch_head_stands _ c.args.state.now.phase c.in-PatchLines.patching c.args.used c.args.before c.args.state.now.at _ c.args.state.now.kept.items c.deref.result.now _ c.args.state.now.line c.in-Ok.plan (sym c.pass_over.ensures.phase ∙ sym c.replace.ensures.value ∙ c.in-PatchLines.is)
      (record { in_lines = c.requires.phase; ended = c.requires.ended; stands = c.requires.stands.2 }) c.requires.short c.requires.empty c.deref.ensures.value c.pass_over.ensures.at c.in-Ok.ensures.plan,
)

pub returns-in-PatchLines-clause-finishes : goal.returns-in-PatchLines-clause-finishes
returns-in-PatchLines-clause-finishes c us b s =
    c.begin_content.ensures.finishes us b
    (patch_head_stands us c.args.state.now.phase c.in-PatchLines.patching c.args.used c.args.before c.args.state.now.at _ c.args.state.now.kept.items c.deref.result.now b c.args.state.now.line c.in-Ok.plan (sym c.pass_over.ensures.phase ∙ sym c.replace.ensures.value ∙ c.in-PatchLines.is)
    (record { in_lines = c.requires.phase; ended = c.requires.ended; stands = s }) c.requires.short c.requires.empty c.deref.ensures.value c.pass_over.ensures.at c.in-Ok.ensures.plan)

pub returns-in-Err-clause-finishes : goal.returns-in-Err-clause-finishes
returns-in-Err-clause-finishes c us b s =
    refused_finishes us b c.args.taken _ _ _ _ _ c.refuse.ensures.refused c.in-Err.ensures.plan
    (λ r j. patch_head_faulty us c.args.state.now.phase c.args.used c.args.before c.args.state.now.at c.args.state.now.kept.items c.deref.result.now b c.args.state.now.line r (record { in_lines = c.requires.phase; ended = c.requires.ended; stands = s }) c.requires.short c.requires.empty c.deref.ensures.value j)
