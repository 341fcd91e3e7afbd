use Rattle.std.proofs.Common.{◌∙◌, ap, refl, arith, List, ℕ, ◌≡◌, ◌+◌, ◌-◌}
use Rattle.braid_frame.specs.declared.state.Patching.{Patching}
use Rattle.braid_frame.specs.declared.state.Phase.TheVariants.{PatchLines}
use Rattle.braid_frame.specs.Phases.{behind_patch, resume}
use Rattle.braid_frame.proofs.LinesKept.{clean_patch}
use Rattle.braid_frame.proofs.Resumed.{patch_last, patch_next}
use Rattle.braid_frame.proofs.Stood.{goes_completed, goes_same, goes_stands, stands_clean}
use Rattle.braid_frame.proofs.contents.end_patch.Goals as goal

pub complete-requires-clause-stands : goal.complete-requires-clause-stands
complete-requires-clause-stands c = (
  c.requires.stands.0,
  c.requires.stands.1,
  goes_completed _ (behind_patch c.args.patching c.args.patch c.args.state.now.at) _ _ _ c.requires.stands.2 (patch_last c.args.patching c.args.patch _ _ c.if-patching-eq0.true (c.of.ensures.value ∙ c.in-Ok.ensures.items)),
)

pub returns-then-patching-eq0-clause-finishes : goal.returns-then-patching-eq0-clause-finishes
returns-then-patching-eq0-clause-finishes c us b g =
    c.complete.ensures.finishes us b
    (goes_completed _ (behind_patch c.args.patching c.args.patch c.args.state.now.at) _ _ _ g (patch_last c.args.patching c.args.patch _ _ c.if-patching-eq0.true (c.of.ensures.value ∙ c.in-Ok.ensures.items)))

pub returns-clause-framing : goal.returns-clause-framing
returns-clause-framing c = clean_patch _ _ c.requires.clean.0 c.requires.clean.1

pub returns-clause-finishes : goal.returns-clause-finishes
returns-clause-finishes c us b g =
    let p = c.args.patching in
    let at = c.args.state.now.at in
    let q : Patching = record { begun = p.begun; done = c.push.new.self; left = p.left - 1; used = p.used + c.args.len; before = c.args.patch.end } in
    let next : (x : List ℕ) → behind_patch p c.args.patch at x ≡ resume (PatchLines q) at x = λ x. patch_next p q c.args.patch at x (omega arith) refl c.in-Ok.ensures.items refl (ap (λ n. p.used + n) c.requires.len) refl in
    (refl, stands_clean us (PatchLines q) at _ b c.requires.clean.0 (goes_stands us (PatchLines q) at b tt (goes_same us (behind_patch p c.args.patch at) (resume (PatchLines q) at) at at b refl next g)), tt, tt)
