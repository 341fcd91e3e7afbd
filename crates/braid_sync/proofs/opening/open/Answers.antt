use Rattle.std.proofs.Common.{ℕ, List, ap, subst, ◌∙◌, Err}
use Rattle.std.proofs.lemmas.Result.{err_from_is_err_and}
use Rattle.braid_io.specs.Outside.{WritesPart, WritesAll}
use Rattle.braid_http.specs.Asks.{WireView}
use Rattle.braid_sync.specs.declared.end.SyncEnd.{SyncEnd}
use Rattle.braid_sync.proofs.Opened.{no_request, request_unwritten, no_head, turned, opened_on, opened_as}
use Rattle.braid_sync.proofs.opening.open.Goals as goal

pub returns-in_err-request : goal.returns-in_err-request
returns-in_err-request g c =
    let r = err_from_is_err_and c.from_residual.result c.from_residual.ensures.1 in
    record { opens = opened_as c.args.place.now c.args.replica.now c.from_residual.result _ _ _ _ _ (r.1 ∙ ap (λ (x : SyncEnd). Err x) r.2) (no_request c.args.place.now c.args.replica.now _ _) }

pub returns-in_err-send : goal.returns-in_err-send
returns-in_err-send g c =
    let r = err_from_is_err_and c.from_residual-in_err-send.result c.from_residual-in_err-send.ensures.1 in
    let w = c.in_err-send.ensures.err in
    record {
      opens = opened_as c.args.place.now c.args.replica.now c.from_residual-in_err-send.result _ _ _ _ _ (r.1 ∙ ap (λ (x : SyncEnd). Err x) (r.2 ∙ w.0))
          (request_unwritten c.args.place.now c.args.replica.now (g.K.Source.intake c.args.link.now) (g.K.Source.intake c.send.new.link) (g.K.Sink.outflow c.args.link.now) (g.K.Sink.outflow c.send.new.link)
          (subst (λ (t : List ℕ). WritesPart t (g.K.Sink.outflow c.args.link.now) (g.K.Sink.outflow c.send.new.link)) c.in_ok-request.ensures.ok w.1) c.in_err-send.ensures.kept);
    }

pub returns-in_err-head : goal.returns-in_err-head
returns-in_err-head g c =
    let r = err_from_is_err_and c.from_residual-in_err-head.result c.from_residual-in_err-head.ensures.1 in
    record {
      opens = opened_as c.args.place.now c.args.replica.now c.from_residual-in_err-head.result _ _ _ _ _ (r.1 ∙ ap (λ (x : SyncEnd). Err x) r.2)
          (no_head c.args.place.now c.args.replica.now c.in_err-head.field-0.0 c.new-wire.result.held c.read_head.new.wire.held (g.K.Source.intake c.args.link.now) (g.K.Source.intake c.send.new.link) (g.K.Source.intake c.read_head.new.link)
          (g.K.Sink.outflow c.args.link.now) (g.K.Sink.outflow c.send.new.link) (g.K.Sink.outflow c.read_head.new.link) (ap (λ (x : WireView). x.held) c.new-wire.ensures.value)
          (subst (λ (t : List ℕ). WritesAll t (g.K.Sink.outflow c.args.link.now) (g.K.Sink.outflow c.send.new.link)) c.in_ok-request.ensures.ok c.in_ok-send.ensures.ok) c.in_ok-send.ensures.kept c.in_err-head.ensures.reads);
    }

pub returns-in_err-current : goal.returns-in_err-current
returns-in_err-current g c =
    let r = err_from_is_err_and c.from_residual-in_err-current.result c.from_residual-in_err-current.ensures.1 in
    record {
      opens = opened_as c.args.place.now c.args.replica.now c.from_residual-in_err-current.result _ _ _ _ _ (r.1 ∙ ap (λ (x : SyncEnd). Err x) r.2)
          (turned c.args.place.now c.args.replica.now c.in_ok-head.head c.in_err-current.field-0.0 c.new-wire.result.held c.read_head.new.wire.held (g.K.Source.intake c.args.link.now) (g.K.Source.intake c.send.new.link)
          (g.K.Source.intake c.read_head.new.link) (g.K.Sink.outflow c.args.link.now) (g.K.Sink.outflow c.send.new.link) (g.K.Sink.outflow c.read_head.new.link) (ap (λ (x : WireView). x.held) c.new-wire.ensures.value)
          (subst (λ (t : List ℕ). WritesAll t (g.K.Sink.outflow c.args.link.now) (g.K.Sink.outflow c.send.new.link)) c.in_ok-request.ensures.ok c.in_ok-send.ensures.ok) c.in_ok-send.ensures.kept c.in_ok-head.ensures.reads
          c.in_err-current.ensures.judges);
    }

pub returns : goal.returns
returns g c =
    let s = c.new-stream.ensures in
    record {
      opens = opened_on c.args.place.now c.args.replica.now c.in_ok-head.head (record { current = c.in_ok-current.current; stream = c.new-stream.result }) c.new-wire.result.held c.read_head.new.wire.held (g.K.Source.intake c.args.link.now)
          (g.K.Source.intake c.send.new.link) (g.K.Source.intake c.read_head.new.link) (g.K.Sink.outflow c.args.link.now) (g.K.Sink.outflow c.send.new.link) (g.K.Sink.outflow c.read_head.new.link)
          (ap (λ (x : WireView). x.held) c.new-wire.ensures.value) (subst (λ (t : List ℕ). WritesAll t (g.K.Sink.outflow c.args.link.now) (g.K.Sink.outflow c.send.new.link)) c.in_ok-request.ensures.ok c.in_ok-send.ensures.ok)
          c.in_ok-send.ensures.kept c.in_ok-head.ensures.reads c.in_ok-current.ensures.judges s.kind (ap (λ (x : WireView). x.held) s.wire) s.going;
    }
