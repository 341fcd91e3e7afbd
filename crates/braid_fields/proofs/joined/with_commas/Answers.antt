use Rattle.std.proofs.Common.{◌∙◌, ◌++◌, ap}
use Rattle.braid_fields.proofs.JoinedLines.{joined_more}
use Rattle.braid_fields.proofs.joined.with_commas.Goals as goal

pub loop-other-preserved : goal.loop-other-preserved
loop-other-preserved c =
    joined_more c.args.first.now c.args.others.now c.loop-other.other-index c.other-item.result _ _ _ _ c.loop-other-test.true c.other-item.is c.loop-other.invariant c.in_ok-push.ensures.ok
    (c.in_ok-push-2.ensures.ok ∙ ap (λ x. c.push.new.self ++ x) c.get.ensures.value)
