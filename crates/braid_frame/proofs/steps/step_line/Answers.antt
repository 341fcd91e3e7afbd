use Rattle.std.proofs.Common.{take, ◌++◌, [], arith, sym, subst}
use Rattle.std.proofs.lemmas.List.{append-nil}
use Rattle.braid_frame.specs.Phases.{judge_of, LeadsTo}
use Rattle.braid_frame.proofs.LinesKept.{limit_is}
use Rattle.braid_frame.proofs.Meant.{stands_as}
use Rattle.braid_frame.proofs.Finished.{steps_fault, finish_steps, fault_behind, lines_go_on}
use Rattle.braid_frame.proofs.HeadEnds.{in_hand_lines, full_faulty, kept_line, kept_part, kept_ended, kept_lines, kept_stands}
use Rattle.braid_frame.proofs.steps.step_line.Goals as goal

pub end_line-requires-clause-ended : goal.end_line-requires-clause-ended
end_line-requires-clause-ended c =
    let s = c.args.state.now in
    let h = kept_line c.in-Ok.kept c.in-Line.count s.kept.items c.keep_line.new.kept.items c.args.piece.now c.in-Line.is c.in-Ok.ensures.ok in
    kept_ended (judge_of s.phase) s.kept.items c.keep_line.new.kept.items c.args.piece.now s.line c.in-Line.count s.awaits c.requires.fine h

pub end_line-requires-clause-stands : goal.end_line-requires-clause-stands
end_line-requires-clause-stands c =
    let s = c.args.state.now in
    let k = c.requires.stands in
    let h = kept_line c.in-Ok.kept c.in-Line.count s.kept.items c.keep_line.new.kept.items c.args.piece.now c.in-Line.is c.in-Ok.ensures.ok in
    (k.0, k.1 ++ take c.in-Line.count c.args.piece.now, kept_stands k.0 s.phase s.at s.kept.items c.keep_line.new.kept.items c.args.piece.now k.1 c.in-Line.count h.0 k.2)

pub returns-in-Line-clause-steps : goal.returns-in-Line-clause-steps
returns-in-Line-clause-steps c us b z =
    let s = c.args.state.now in
    let h = kept_line c.in-Ok.kept c.in-Line.count s.kept.items c.keep_line.new.kept.items c.args.piece.now c.in-Line.is c.in-Ok.ensures.ok in
    finish_steps us b c.args.piece.now c.in-Line.count c.end_line.result c.end_line.new.state h.0.some h.0.within
    (c.end_line.ensures.finishes us (b ++ take c.in-Line.count c.args.piece.now) (kept_stands us s.phase s.at s.kept.items c.keep_line.new.kept.items c.args.piece.now b c.in-Line.count h.0 z))

pub returns-then-len-eq-HEAD_LIMIT-clause-steps : goal.returns-then-len-eq-HEAD_LIMIT-clause-steps
returns-then-len-eq-HEAD_LIMIT-clause-steps c us b z =
    let s = c.args.state.now in
    let new = c.keep_line.new.kept.items in
    let x = take c.in-Part.count c.args.piece.now in
    let h = kept_part c.in-Ok.kept c.in-Part.count s.kept.items new c.args.piece.now c.in-Part.is c.in-Ok.ensures.ok in
    let k = kept_lines (judge_of s.phase) s.kept.items new c.args.piece.now s.line c.in-Part.count s.awaits c.requires.fine h.0.kept h.1 in
    steps_fault us b c.args.piece.now _ _ _ c.fail.ensures.fault c.fail.ensures.phase
    (fault_behind us b c.args.piece.now c.in-Part.count _ (full_faulty us s.phase s.at new (b ++ x) s.line s.awaits c.requires.lines k (omega (arith, limit_is)) (kept_stands us s.phase s.at s.kept.items new c.args.piece.now b c.in-Part.count h.0 z)))

pub returns-else-len-eq-HEAD_LIMIT-clause-framing : goal.returns-else-len-eq-HEAD_LIMIT-clause-framing
returns-else-len-eq-HEAD_LIMIT-clause-framing c =
    let s = c.args.state.now in
    let new = c.keep_line.new.kept.items in
    let h = kept_part c.in-Ok.kept c.in-Part.count s.kept.items new c.args.piece.now c.in-Part.is c.in-Ok.ensures.ok in
    let k = kept_lines (judge_of s.phase) s.kept.items new c.args.piece.now s.line c.in-Part.count s.awaits c.requires.fine h.0.kept h.1 in
    in_hand_lines s.phase new s.line s.awaits c.requires.lines k (omega (arith, limit_is, h.0.short))

pub returns-else-len-eq-HEAD_LIMIT-clause-steps : goal.returns-else-len-eq-HEAD_LIMIT-clause-steps
returns-else-len-eq-HEAD_LIMIT-clause-steps c us b z =
    let s = c.args.state.now in
    let new = c.keep_line.new.kept.items in
    let x = take c.in-Part.count c.args.piece.now in
    let h = kept_part c.in-Ok.kept c.in-Part.count s.kept.items new c.args.piece.now c.in-Part.is c.in-Ok.ensures.ok in
    let o = lines_go_on s.phase c.requires.lines in
    record {
      some = h.0.some;
      within = h.0.within;
      stands = stands_as s.phase (us ++ []) s.at new (b ++ x) o (subst (λ vs. LeadsTo vs s.phase s.at new (b ++ x)) (sym (append-nil us)) (kept_stands us s.phase s.at s.kept.items new c.args.piece.now b c.in-Part.count h.0 z));
      open_still = o;
      ends = tt;
    }
