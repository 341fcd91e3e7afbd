use Rattle.std.proofs.Common.{ap, ◌∙◌, Err, refl, inl}
use Rattle.std.proofs.lemmas.Result.{err_from_is_err_and}
use Rattle.braid_sync.specs.declared.end.SyncEnd.{SyncEnd}
use Rattle.braid_sync.specs.Steps.{failing_in, end_of}
use Rattle.braid_sync.specs.Syncs.{Subscribes}
use Rattle.braid_sync.proofs.Dialled.{talks_once}
use Rattle.braid_sync.proofs.Synced.{talks_none}
use Rattle.braid_sync.proofs.syncing.subscribe_over.Goals as goal

pub returns-in_err-link : goal.returns-in_err-link
returns-in_err-link g c =
    let r = err_from_is_err_and c.from_residual.result c.from_residual.ensures.1 in
    let d = c.in_err-link.ensures.dials in
    record { text = talks_none c.args.place.now c.from_residual.result c.in_err-link.field-0.0 _ _ _ _ (r.1 ∙ ap (λ (x : SyncEnd). Err x) r.2) refl d.0 d.1 d.2 }

pub returns : goal.returns
returns g c =
    let t = c.subscribe-learnt.ensures.text in
    record {
      text = inl (talks_once c.args.place.now (failing_in c.subscribe-learnt.result) (λ said. Subscribes c.args.place.now c.args.replica.now said c.subscribe-learnt.new.replica (end_of c.subscribe-learnt.result))
          (g.D.Dialer.dialing c.args.dialer.now) (g.D.Dialer.dialing c.dial.new.dialer) (g.D.Dialer.dialing c.hang_up.new.self) (g.D.Link.Source.intake c.in_ok-link.link) (g.D.Link.Source.intake c.subscribe-learnt.new.link)
          (g.D.Link.Sink.outflow c.in_ok-link.link) (g.D.Link.Sink.outflow c.subscribe-learnt.new.link) t.0 t.1 c.in_ok-link.ensures.dials t.2 c.hang_up.ensures.hang_up t.3);
    }

pub hang_up-requires : goal.hang_up-requires
hang_up-requires g c = record { up = c.in_ok-link.ensures.dials.is_up }
