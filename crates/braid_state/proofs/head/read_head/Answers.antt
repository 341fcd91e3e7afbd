use Rattle.std.proofs.Common.{decimal, [], refl}
use Rattle.std.proofs.lemmas.Result.{err_from_is_err_and}
use Rattle.braid_state.specs.Heads.{Head}
use Rattle.braid_state.proofs.Stopped.{stop_weaker}
use Rattle.braid_state.proofs.head.read_head.Goals as goal

pub returns-in_err-server-clause-stop : goal.returns-in_err-server-clause-stop
returns-in_err-server-clause-stop c =
    let p = err_from_is_err_and c.from_residual-in_err-server.result c.from_residual-in_err-server.ensures.1 in
    let head : Head = record { agent = c.in_ok-agent.agent; server = []; path = []; confirmed = []; unsent = [] } in
    rw (p.1, p.2) (stop_weaker c.in_err-server.field-0.0 _ _ (λ rest k. k head c.args.bytes.now (c.in_ok-agent.ensures.ok head refl)) c.in_err-server.ensures.stop)

pub returns-in_err-confirmed-clause-stop : goal.returns-in_err-confirmed-clause-stop
returns-in_err-confirmed-clause-stop c =
    let p = err_from_is_err_and c.from_residual-in_err-confirmed.result c.from_residual-in_err-confirmed.ensures.1 in
    let head : Head = record { agent = c.in_ok-agent.agent; server = c.in_ok-server.server.now; path = c.in_ok-server.path.now; confirmed = []; unsent = [] } in
    let four = c.in_ok-server.ensures.ok head c.args.bytes.now refl refl (c.in_ok-agent.ensures.ok head refl) in
    rw (p.1, p.2) (stop_weaker c.in_err-confirmed.field-0.0 _ _ (λ rest k. k head c.args.bytes.now four) c.in_err-confirmed.ensures.stop)

pub returns-clause-ok : goal.returns-clause-ok
returns-clause-ok c =
    let head : Head = record { agent = c.agent.inside.bytes.items; server = c.in_ok-of.field-0; path = c.in_ok-of-2.field-0; confirmed = decimal c.in_ok-confirmed.confirmed; unsent = decimal c.in_ok-confirmed.unsent } in
    let four = c.in_ok-server.ensures.ok head c.args.bytes.now c.in_ok-of.ensures.ok c.in_ok-of-2.ensures.ok (c.in_ok-agent.ensures.ok head c.agent.view_is) in
    (c.in_ok-confirmed.ensures.ok head c.args.bytes.now refl refl four, c.in_ok-confirmed.ensures.few)
