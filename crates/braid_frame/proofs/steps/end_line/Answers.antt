use Rattle.std.proofs.Common.{◌≡◌, drop, [], ◌∷◌, ◌++◌, length, rules, arith, refl, sym, ap, subst, ◌∙◌, true, false}
use Rattle.std.proofs.lemmas.List.{append-nil, take_rest}
use Rattle.braid_fields.specs.Lines.{is_empty_line}
use Rattle.braid_grammar.specs.Heads.{Wrong}
use Rattle.braid_frame.specs.Phases.{judge_of, LeadsTo}
use Rattle.braid_frame.specs.HeadLines.{awaited, IsFirst, GoesOn, AreLines}
use Rattle.braid_frame.proofs.LinesKept.{limit_is}
use Rattle.braid_frame.proofs.LinesJudged.{ended_fine}
use Rattle.braid_frame.proofs.Meant.{stands_as}
use Rattle.braid_frame.proofs.Finished.{finishes_fault, finishes_more, goes_on_at, lines_go_on}
use Rattle.braid_frame.proofs.HeadEnds.{in_hand_lines, gap_in_hand, gap_finishes, full_faulty, line_faulty}
use Rattle.braid_frame.proofs.steps.end_line.Goals as goal

pub returns-in-Gap-clause-framing : goal.returns-in-Gap-clause-framing
returns-in-Gap-clause-framing c =
    gap_in_hand c.args.state.now.phase c.pass_over.new.state.phase c.args.state.now.kept.items c.pass_over.new.state.kept.items c.args.state.now.line c.pass_over.new.state.line c.args.state.now.awaits c.pass_over.new.state.awaits c.pass_over.ensures.phase c.pass_over.ensures.kept c.pass_over.ensures.line c.pass_over.ensures.awaits c.requires.lines c.requires.ended c.in-Gap.ensures.judges.0

pub returns-in-Gap-clause-finishes : goal.returns-in-Gap-clause-finishes
returns-in-Gap-clause-finishes c us b s =
    let line = c.args.state.now.line in
    let e = take_rest c.deref.result.now line ∙ ap (drop line) c.deref.ensures.value in
    finishes_more us b c.args.taken c.pass_over.new.state (goes_on_at c.args.state.now.phase c.pass_over.new.state.phase c.pass_over.ensures.phase (lines_go_on c.args.state.now.phase c.requires.lines))
    (gap_finishes us c.args.state.now.phase c.pass_over.new.state.phase c.args.state.now.at c.pass_over.new.state.at c.args.state.now.kept.items c.pass_over.new.state.kept.items b line c.args.state.now.awaits c.pass_over.ensures.phase c.pass_over.ensures.at c.pass_over.ensures.kept c.requires.lines c.requires.ended c.in-Gap.ensures.judges.0
    (subst (λ l. is_empty_line l ≡ true) e c.in-Gap.ensures.judges.1) s)

pub returns-then-len-eq-HEAD_LIMIT-clause-finishes : goal.returns-then-len-eq-HEAD_LIMIT-clause-finishes
returns-then-len-eq-HEAD_LIMIT-clause-finishes c us b s =
    let d = c.args.state.now.phase in
    let kept = c.args.state.now.kept.items in
    let line = c.args.state.now.line in
    let e = take_rest c.deref.result.now line ∙ ap (drop line) c.deref.ensures.value in
    let k = ended_fine (judge_of d) kept line c.args.state.now.awaits c.requires.ended c.in-Fine.awaits (subst (λ l. GoesOn c.args.state.now.awaits l c.in-Fine.awaits) e c.in-Fine.ensures.judges) in
    finishes_fault us b c.args.taken _ _ _ c.fail.ensures.fault c.fail.ensures.phase (full_faulty us d c.args.state.now.at kept b (length kept) c.in-Fine.awaits c.requires.lines k (omega (arith, limit_is)) s)

pub returns-else-len-eq-HEAD_LIMIT-clause-framing : goal.returns-else-len-eq-HEAD_LIMIT-clause-framing
returns-else-len-eq-HEAD_LIMIT-clause-framing c =
    let d = c.args.state.now.phase in
    let kept = c.args.state.now.kept.items in
    let line = c.args.state.now.line in
    let e = take_rest c.deref.result.now line ∙ ap (drop line) c.deref.ensures.value in
    let k = ended_fine (judge_of d) kept line c.args.state.now.awaits c.requires.ended c.in-Fine.awaits (subst (λ l. GoesOn c.args.state.now.awaits l c.in-Fine.awaits) e c.in-Fine.ensures.judges) in
    in_hand_lines d kept c.len-state.result c.in-Fine.awaits c.requires.lines (subst (λ n. AreLines (judge_of d) kept n c.in-Fine.awaits) (search rules) k) (omega (arith, limit_is, c.requires.short))

pub returns-else-len-eq-HEAD_LIMIT-clause-finishes : goal.returns-else-len-eq-HEAD_LIMIT-clause-finishes
returns-else-len-eq-HEAD_LIMIT-clause-finishes c us b s =
    let d = c.args.state.now.phase in
    let o = lines_go_on d c.requires.lines in
    (refl, stands_as d (us ++ []) c.args.state.now.at c.args.state.now.kept.items b o (subst (λ vs. LeadsTo vs d c.args.state.now.at c.args.state.now.kept.items b) (sym (append-nil us)) s), o, tt)

pub returns-in-Bad-clause-finishes : goal.returns-in-Bad-clause-finishes
returns-in-Bad-clause-finishes c us b s =
    let awaits = c.args.state.now.awaits in
    let line = c.args.state.now.line in
    let e = take_rest c.deref.result.now line ∙ ap (drop line) c.deref.ensures.value in
    finishes_fault us b c.args.taken _ _ _ c.fail-in-Bad.ensures.fault c.fail-in-Bad.ensures.phase
    (line_faulty us c.args.state.now.phase c.args.state.now.at c.args.state.now.kept.items b line awaits c.in-Bad.reason c.requires.lines c.requires.ended c.requires.short
    (subst (λ l. IsFirst awaits → is_empty_line l ≡ false) e c.in-Bad.ensures.judges.0) (subst (λ l. awaited awaits (l ∷ []) ≡ Wrong 0 c.in-Bad.reason) e c.in-Bad.ensures.judges.1) s)
