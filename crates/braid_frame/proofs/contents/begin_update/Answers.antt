use Rattle.std.proofs.Common.{refl}
use Rattle.braid_frame.specs.declared.state.Patching.{Patching}
use Rattle.braid_frame.specs.declared.state.Phase.TheVariants.{Body, PatchContent}
use Rattle.braid_frame.specs.Phases.{behind_head, behind_count, resume}
use Rattle.braid_frame.proofs.Resumed.{begun_of, body_asked, one_patch_asked, patches_asked}
use Rattle.braid_frame.proofs.Stood.{goes_same, goes_stands}
use Rattle.braid_frame.proofs.contents.begin_update.Goals as goal

pub returns-in-Body-clause-finishes : goal.returns-in-Body-clause-finishes
returns-in-Body-clause-finishes c us b g =
    let at = c.args.state.now.at in
    let d = Body (begun_of c.args.plan) c.in-Body.len in
    c.begin_content.ensures.finishes us b (goes_stands us d at b tt (goes_same us (behind_head c.args.plan at) (resume d at) at at b refl (λ x. body_asked c.args.plan c.in-Body.len at x c.in-Body.is) g))

pub returns-in-OnePatch-clause-finishes : goal.returns-in-OnePatch-clause-finishes
returns-in-OnePatch-clause-finishes c us b g =
    let at = c.args.state.now.at in
    let p : Patching = record { begun = begun_of c.args.plan; done = c.new.result; left = 0; used = 0; before = 0 } in
    let d = PatchContent p c.in-OnePatch.patch in
    c.begin_content-in-OnePatch.ensures.finishes us b (goes_stands us d at b tt (goes_same us (behind_head c.args.plan at) (resume d at) at at b refl (λ x. one_patch_asked c.args.plan p c.in-OnePatch.patch at x c.in-OnePatch.is refl c.new.ensures.items refl) g))

pub returns-in-Patches-clause-finishes : goal.returns-in-Patches-clause-finishes
returns-in-Patches-clause-finishes c us b g =
    let at = c.args.state.now.at in
    c.begin_patches.ensures.finishes us b (goes_same us (behind_head c.args.plan at) (behind_count (begun_of c.args.plan) c.in-Patches.count at) at at b refl (λ x. patches_asked c.args.plan c.in-Patches.count at x c.in-Patches.is) g)
