use Rattle.std.proofs.Common.{◌≡◌, ◌-◌, take, drop, rules}
use Rattle.braid_http.proofs.ReplyReading.{late_reply, many_reply_lines, unread_reply, refused_reply, whole_reply}
use Rattle.braid_http.proofs.response.judge_reply.Goals as goal

pub returns-then-end-gt-MOST_HEAD-clause-err : goal.returns-then-end-gt-MOST_HEAD-clause-err
returns-then-end-gt-MOST_HEAD-clause-err c = late_reply _ _ _ c.requires.at c.if-end-gt-MOST_HEAD.true

pub returns-then-full-gt-MOST_LINES-clause-err : goal.returns-then-full-gt-MOST_LINES-clause-err
returns-then-full-gt-MOST_LINES-clause-err c =
    many_reply_lines _ _ _ c.requires.at c.if-end-gt-MOST_HEAD.false (rw c.full.ensures.value at c.if-full-gt-MOST_LINES.true)

pub returns-in-Err-Bad-clause-err : goal.returns-in-Err-Bad-clause-err
returns-in-Err-Bad-clause-err c =
    let slice : take (c.args.end - c.start.result) (drop c.start.result c.args.bytes.now) ≡ take (c.args.end - c.args.look.now.start) (drop c.args.look.now.start c.args.bytes.now) =
    (λ i. take (c.args.end - c.start.ensures.value i) (drop (c.start.ensures.value i) c.args.bytes.now)) in
    unread_reply _ _ _ _ c.requires.at c.if-end-gt-MOST_HEAD.false (rw c.full.ensures.value at c.if-full-gt-MOST_LINES.false) slice (c.read_response.ensures.bad (search rules))

pub returns-in-Ok-kind_of-clause-ok : goal.returns-in-Ok-kind_of-clause-ok
returns-in-Ok-kind_of-clause-ok c =
    let w = c.in-Ok.ensures.ok in
    let slice : take (c.args.end - c.start.result) (drop c.start.result c.args.bytes.now) ≡ take (c.args.end - c.args.look.now.start) (drop c.args.look.now.start c.args.bytes.now) =
    (λ i. take (c.args.end - c.start.ensures.value i) (drop (c.start.ensures.value i) c.args.bytes.now)) in
    whole_reply _ _ _ _ c.in-Ok.parts _ _ c.requires.at c.if-end-gt-MOST_HEAD.false (rw c.full.ensures.value at c.if-full-gt-MOST_LINES.false) slice w.1 w.2 (rw c.as_u16.ensures.value at c.in-Ok-kind_of.ensures)

pub returns-in-Err-clause-err : goal.returns-in-Err-clause-err
returns-in-Err-clause-err c =
    let w = c.in-Ok.ensures.ok in
    let slice : take (c.args.end - c.start.result) (drop c.start.result c.args.bytes.now) ≡ take (c.args.end - c.args.look.now.start) (drop c.args.look.now.start c.args.bytes.now) =
    (λ i. take (c.args.end - c.start.ensures.value i) (drop (c.start.ensures.value i) c.args.bytes.now)) in
    refused_reply _ _ _ _ c.in-Ok.parts _ _ c.requires.at c.if-end-gt-MOST_HEAD.false (rw c.full.ensures.value at c.if-full-gt-MOST_LINES.false) slice w.1 w.2 (rw c.as_u16.ensures.value at c.in-Err.ensures)
