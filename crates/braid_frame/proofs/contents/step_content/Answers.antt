use Rattle.std.proofs.Common.{take, ◌++◌, [], arith, sym, subst}
use Rattle.std.proofs.lemmas.List.{append-nil}
use Rattle.braid_frame.specs.Phases.{LeadsTo}
use Rattle.braid_frame.proofs.Stood.{more_kept}
use Rattle.braid_frame.proofs.Meant.{stands_as}
use Rattle.braid_frame.proofs.Finished.{finish_steps, content_goes_on}
use Rattle.braid_frame.proofs.contents.step_content.Goals as goal

pub end_content-requires-clause-stands : goal.end_content-requires-clause-stands
end_content-requires-clause-stands c =
    let s = c.args.state.now in
    let x = take c.min-count.result c.args.piece.now in
    let k = c.requires.stands in
    (k.0, k.1 ++ x, subst (λ t. LeadsTo k.0 s.phase s.at t (k.1 ++ x)) (sym c.in-Ok.ensures.items) (more_kept k.0 s.phase s.at s.kept.items k.1 x k.2))

pub returns-then-len-clause-steps : goal.returns-then-len-clause-steps
returns-then-len-clause-steps c us b h =
    let s = c.args.state.now in
    let x = take c.min-count.result c.args.piece.now in
    finish_steps us b c.args.piece.now c.min-count.result c.end_content.result c.end_content.new.state (omega arith) (omega arith)
    (c.end_content.ensures.finishes us (b ++ x) (subst (λ t. LeadsTo us s.phase s.at t (b ++ x)) (sym c.in-Ok.ensures.items) (more_kept us s.phase s.at s.kept.items b x h)))

pub returns-clause-steps : goal.returns-clause-steps
returns-clause-steps c us b h =
    let s = c.args.state.now in
    let x = take c.min-count.result c.args.piece.now in
    let o = content_goes_on s.phase c.args.len c.requires.content in
    record {
      some = omega arith;
      within = omega arith;
      stands = stands_as s.phase (us ++ []) s.at c.extend_from_slice.new.self.items (b ++ x) o
          (subst (λ vs. LeadsTo vs s.phase s.at c.extend_from_slice.new.self.items (b ++ x)) (sym (append-nil us))
          (subst (λ t. LeadsTo us s.phase s.at t (b ++ x)) (sym c.in-Ok.ensures.items) (more_kept us s.phase s.at s.kept.items b x h)));
      open_still = o;
      ends = tt;
    }
