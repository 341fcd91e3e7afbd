use Rattle.braid_http.proofs.StepLaws.{line_open, line_bad, line_over, line_last, line_data}
use Rattle.braid_http.proofs.chunks.at_line.Goals as goal

pub returns-in_default : goal.returns-in_default
returns-in_default c =
    let f = c.in_default.ensures.cut in
    record { steps = λ passed out size at. line_open _ _ _ f.0 f.1 at }

pub returns-in_default-size_of_line : goal.returns-in_default-size_of_line
returns-in_default-size_of_line c =
    let f = c.in-Some.ensures.cut in
    record { steps = λ passed out size at. line_bad _ _ _ _ _ f.1 c.in_default-size_of_line.ensures.size f.2 at }

pub returns-then-size-eq0 : goal.returns-then-size-eq0
returns-then-size-eq0 c =
    let f = c.in-Some.ensures.cut in
    record { steps = λ passed out size at. rw c.new.ensures.value (line_last _ _ _ _ _ _ c.in-Some-size_of_line.ensures.size c.if-size-eq0.true f.2 at) }

pub returns-then-size-saturating_sub : goal.returns-then-size-saturating_sub
returns-then-size-saturating_sub c =
    let f = c.in-Some.ensures.cut in
    record { steps = λ passed out size at. line_over _ _ _ _ _ _ c.args.total c.in-Some-size_of_line.ensures.size c.if-size-eq0.false (rw c.saturating_sub.ensures at c.if-size-saturating_sub.true) size f.2 at }

pub returns : goal.returns
returns c =
    let f = c.in-Some.ensures.cut in
    record { steps = λ passed out size at. line_data _ _ _ _ _ _ c.args.total c.in-Some-size_of_line.ensures.size c.if-size-eq0.false (rw c.saturating_sub.ensures at c.if-size-saturating_sub.false) size f.2 at }
