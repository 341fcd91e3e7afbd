use Rattle.braid_http.specs.Requests.{refused}
use Rattle.braid_http.proofs.Waiting.{after_took, answers, refused_fields}
use Rattle.braid_http.proofs.reading.next_request.Goals as goal

pub returns-in-No-clause-gives : goal.returns-in-No-clause-gives
returns-in-No-clause-gives g c =
    let y = c.in_ok-ready.ensures.ready in
    (y.rest, answers (refused c.in-No.refusal) _ _ _ _ _ c.in_ok-ready.ensures.took (refused_fields _ _ c.in-No.refusal y c.in-No.is))

pub returns-in-Body-clause-gives : goal.returns-in-Body-clause-gives
returns-in-Body-clause-gives g c = after_took _ _ _ _ _ _ _ c.in_ok-ready.ensures.took c.take_body.ensures.gives

pub returns-in-Chunks-clause-gives : goal.returns-in-Chunks-clause-gives
returns-in-Chunks-clause-gives g c = after_took _ _ _ _ _ _ _ c.in_ok-ready.ensures.took c.take_chunked.ensures.gives
