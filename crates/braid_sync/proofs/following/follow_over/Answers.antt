use Rattle.std.proofs.Common.{ap, ◌∙◌, Err}
use Rattle.std.proofs.lemmas.Result.{err_from_is_err_and}
use Rattle.braid_sync.specs.declared.end.SyncEnd.{SyncEnd}
use Rattle.braid_sync.specs.Steps.{failing_in}
use Rattle.braid_sync.specs.Links.{FollowsOn}
use Rattle.braid_sync.proofs.Dialled.{talks_once}
use Rattle.braid_sync.proofs.FollowSteps.{followed_over, followed_nowhere, over_as}
use Rattle.braid_sync.proofs.following.follow_over.Goals as goal

pub returns-in_err-link-clause-text : goal.returns-in_err-link-clause-text
returns-in_err-link-clause-text g c =
    let r = err_from_is_err_and c.from_residual.result c.from_residual.ensures.1 in
    let d = c.in_err-link.ensures.dials in
    over_as c.args.place.now c.args.count c.args.replica.now c.args.replica.now c.from_residual.result c.in_err-link.field-0.0 c.args.lines.now _ _ _ _ (r.1 ∙ ap (λ (x : SyncEnd). Err x) r.2)
    (followed_nowhere c.args.place.now c.args.count c.args.replica.now c.in_err-link.field-0.0 c.args.lines.now _ _ _ d.0 d.1 d.2 c.requires.none)

pub returns-clause-text : goal.returns-clause-text
returns-clause-text g c =
    let t = c.follow_on-followed.ensures.text in
    followed_over c.args.place.now c.args.count c.args.replica.now c.follow_on-followed.new.replica c.follow_on-followed.result c.follow_on-followed.new.lines _ _ _ _
    (talks_once c.args.place.now (failing_in c.follow_on-followed.result) (λ said. FollowsOn c.args.place.now c.args.count c.args.replica.now said c.follow_on-followed.result c.follow_on-followed.new.lines c.follow_on-followed.new.replica (g.O.Sink.outflow c.args.out.now) (g.O.Sink.outflow c.follow_on-followed.new.out))
    (g.D.Dialer.dialing c.args.dialer.now) (g.D.Dialer.dialing c.dial.new.dialer) (g.D.Dialer.dialing c.hang_up.new.self) (g.D.Link.Source.intake c.in_ok-link.link) (g.D.Link.Source.intake c.follow_on-followed.new.link)
    (g.D.Link.Sink.outflow c.in_ok-link.link) (g.D.Link.Sink.outflow c.follow_on-followed.new.link) t.0 t.1 c.in_ok-link.ensures.dials t.2 c.hang_up.ensures.hang_up t.3)

pub hang_up-requires : goal.hang_up-requires
hang_up-requires g c = record { up = c.in_ok-link.ensures.dials.is_up }
