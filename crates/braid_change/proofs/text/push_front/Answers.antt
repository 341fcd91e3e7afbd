use Rattle.std.proofs.Common.{◌++◌, ◌∙◌, sym, ap}
use Rattle.braid_change.proofs.AsciiTexts.{encoded_ascii}
use Rattle.braid_change.proofs.text.push_front.Goals as goal

pub returns-then-count-gt0-clause-ok : goal.returns-then-count-gt0-clause-ok
returns-then-count-gt0-clause-ok c =
    let coded = c.fill_ascii-count.ensures.filled ∙ sym (encoded_ascii _ c.fill_ascii-count.ensures.ascii) in
    (c.if-count-gt0.true, c.fill_ascii-count.ensures.within, c.in_ok-push.ensures.ok ∙ ap (λ t. c.args.out.now ++ t) coded)
