use Rattle.std.proofs.Common.{◌∙◌, ◌+◌, ◌-◌, ap, refl, take, drop}
use Rattle.braid_http.proofs.Waiting.{ready_some, ready_open, asked_body}
use Rattle.braid_http.proofs.reading.take_body.Goals as goal

pub await_bytes-requires-clause-begun : goal.await_bytes-requires-clause-begun
await_bytes-requires-clause-begun g c = ready_some _ _ c.requires.ready

pub await_bytes-requires-clause-open : goal.await_bytes-requires-clause-open
await_bytes-requires-clause-open g c = ready_open c.args.ready _ c.args.n _ c.requires.ready c.requires.body refl

pub returns-clause-gives : goal.returns-clause-gives
returns-clause-gives g c =
    let size = c.args.ready.used + c.args.n in
    let body = c.in-Ok.ensures.ok ∙ ap (λ z. take (size - c.args.ready.used) (drop c.args.ready.used z)) c.get.ensures.value in
    rw c.pass.ensures.rest (asked_body _ _ _ _ _ c.args.ready c.args.n size _ c.in_ok-await_bytes.ensures.took c.requires.ready c.requires.body refl c.in_ok-await_bytes.ensures.enough body c.in-Ok-request_of.ensures.ok)
