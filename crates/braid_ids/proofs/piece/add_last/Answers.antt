use Rattle.std.proofs.Common.{◌≡◌, length, ap, sym, ◌∙◌}
use Rattle.braid_ids.proofs.Ranges.{pushed, joined_last}
use Rattle.braid_ids.proofs.piece.add_last.Goals as goal

pub returns-then-last-piece-clause-ok : goal.returns-then-last-piece-clause-ok
returns-then-last-piece-clause-ok c =
    let last = rw c.deref.ensures.value at c.in-Some.ensures.value in
    c.in_ok-push-2.ensures.items ∙ pushed c.args.piece c.in-Some.last.now c.args.pieces.now.items c.requires.some c.requires.rise c.requires.last (sym last) c.if-last-piece.true

pub returns-clause-ok : goal.returns-clause-ok
returns-clause-ok c =
    let last = rw c.deref.ensures.value at c.in-Some.ensures.value in
    let long : c.len-at.result ≡ length c.args.pieces.now.items = c.len-at.ensures ∙ (sym c.deref.ensures.len ∙ ap length c.deref.ensures.value) in
    rw (c.merge-last.ensures.value, long) (joined_last c.args.piece c.in-Some.last.now c.args.pieces.now.items c.requires.some c.requires.rise c.requires.last (sym last) c.if-last-piece.false)
