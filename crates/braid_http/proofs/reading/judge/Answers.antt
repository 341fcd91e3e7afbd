use Rattle.std.proofs.Common.{◌≡◌, ◌-◌, take, drop, refl, rules}
use Rattle.braid_http.proofs.Judging.{late_head, many_lines, unread_head, ready_head}
use Rattle.braid_http.proofs.reading.judge.Goals as goal

pub returns-then-end-gt-MOST_HEAD-clause-err : goal.returns-then-end-gt-MOST_HEAD-clause-err
returns-then-end-gt-MOST_HEAD-clause-err c = late_head _ _ _ c.requires.at c.if-end-gt-MOST_HEAD.true

pub returns-then-full-gt-MOST_LINES-clause-err : goal.returns-then-full-gt-MOST_LINES-clause-err
returns-then-full-gt-MOST_LINES-clause-err c =
    many_lines _ _ _ c.requires.at c.if-end-gt-MOST_HEAD.false (rw c.full.ensures.value at c.if-full-gt-MOST_LINES.true)

pub returns-in-Err-Bad-clause-err : goal.returns-in-Err-Bad-clause-err
returns-in-Err-Bad-clause-err c =
    let slice : take (c.args.end - c.start.result) (drop c.start.result c.args.bytes.now) ≡ take (c.args.end - c.args.look.now.start) (drop c.args.look.now.start c.args.bytes.now) =
    (λ i. take (c.args.end - c.start.ensures.value i) (drop (c.start.ensures.value i) c.args.bytes.now)) in
    unread_head _ _ _ _ c.requires.at c.if-end-gt-MOST_HEAD.false (rw c.full.ensures.value at c.if-full-gt-MOST_LINES.false) slice (c.read_head.ensures.bad (search rules))

pub returns-in-Ok-clause-ok : goal.returns-in-Ok-clause-ok
returns-in-Ok-clause-ok c =
    let w = c.in-Ok.ensures.ok in
    let slice : take (c.args.end - c.start.result) (drop c.start.result c.args.bytes.now) ≡ take (c.args.end - c.args.look.now.start) (drop c.args.look.now.start c.args.bytes.now) =
    (λ i. take (c.args.end - c.start.ensures.value i) (drop (c.start.ensures.value i) c.args.bytes.now)) in
    ready_head _ _ _ _ _ w.0 c.requires.at c.if-end-gt-MOST_HEAD.false (rw c.full.ensures.value at c.if-full-gt-MOST_LINES.false) slice w.1 w.2 refl c.announced-framing.ensures
