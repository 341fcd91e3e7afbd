use Rattle.braid_session.specs.Orders.{serving_now}
use Rattle.braid_session.proofs.Opening.{opened_in_part, opened_whole}
use Rattle.braid_session.proofs.serve.answer_request.Goals as goal

pub returns-in_default-clause-answers : goal.returns-in_default-clause-answers
returns-in_default-clause-answers g c =
    opened_in_part serving_now c.args.request.now c.in-Ok-Opened.opening _ _ _ _ _ _ _ _ _ (rw c.in-Ok-Opened.field-0-is at c.in-Ok-Opened.ensures.ok)
    c.get-in-Ok-Opened.ensures.value c.in_default.ensures.err.1

pub returns-in-Ok-Opened-clause-answers : goal.returns-in-Ok-Opened-clause-answers
returns-in-Ok-Opened-clause-answers g c =
    opened_whole serving_now c.args.request.now c.in-Ok-Opened.opening _ _ _ _ _ _ _ _ _ _ _ _ _ _ (rw c.in-Ok-Opened.field-0-is at c.in-Ok-Opened.ensures.ok)
    c.get-in-Ok-Opened.ensures.value c.in-Ok-write.ensures.ok c.watch-end.ensures.watches
