use Rattle.std.proofs.Common.{◌≡◌, ◌-◌, ◌∙◌, List, ℕ, refl, arith}
use Rattle.braid_frame.specs.declared.state.Patching.{Patching}
use Rattle.braid_frame.specs.declared.state.Phase.TheVariants.{PatchLines}
use Rattle.braid_frame.specs.Phases.{behind_count, resume}
use Rattle.braid_frame.proofs.LinesKept.{clean_patch}
use Rattle.braid_frame.proofs.Resumed.{none_counted, some_counted}
use Rattle.braid_frame.proofs.Stood.{goes_completed, goes_same, goes_stands, stands_clean}
use Rattle.braid_frame.proofs.contents.begin_patches.Goals as goal

pub complete-requires-clause-stands : goal.complete-requires-clause-stands
complete-requires-clause-stands c = (
  c.requires.stands.0,
  c.requires.stands.1,
  goes_completed _ (behind_count c.args.begun c.args.count c.args.state.now.at) _ _ _ c.requires.stands.2 (none_counted c.args.begun c.args.count _ _ c.if-count-eq0.true (c.of.ensures.value ∙ c.new.ensures.items)),
)

pub returns-then-count-eq0-clause-finishes : goal.returns-then-count-eq0-clause-finishes
returns-then-count-eq0-clause-finishes c us b g =
    c.complete.ensures.finishes us b
    (goes_completed _ (behind_count c.args.begun c.args.count c.args.state.now.at) _ _ _ g (none_counted c.args.begun c.args.count _ _ c.if-count-eq0.true (c.of.ensures.value ∙ c.new.ensures.items)))

pub returns-clause-framing : goal.returns-clause-framing
returns-clause-framing c = clean_patch _ _ c.requires.clean.0 c.requires.clean.1

pub returns-clause-finishes : goal.returns-clause-finishes
returns-clause-finishes c us b g =
    let at = c.args.state.now.at in
    let p : Patching = record { begun = c.args.begun; done = c.new-2.result; left = c.args.count - 1; used = 0; before = 0 } in
    let next : (x : List ℕ) → behind_count c.args.begun c.args.count at x ≡ resume (PatchLines p) at x = λ x. some_counted p c.args.count at x (omega arith) c.new-2.ensures.items refl refl refl in
    (refl, stands_clean us (PatchLines p) at _ b c.requires.clean.0 (goes_stands us (PatchLines p) at b tt (goes_same us (behind_count c.args.begun c.args.count at) (resume (PatchLines p) at) at at b refl next g)), tt, tt)
