use Rattle.std.proofs.Common.{ap, ◌∙◌, Err, refl}
use Rattle.std.proofs.lemmas.Result.{err_from_is_err_and}
use Rattle.braid_sync.specs.declared.end.SyncEnd.{SyncEnd}
use Rattle.braid_sync.proofs.FollowSteps.{follow_not, following_from, followed_all, followed_broken, followed_out, following_on, followed_stopped, followed_as, next_update, none_heard}
use Rattle.braid_sync.proofs.following.follow_on.Goals as goal

pub returns-in_err-subscription-clause-text : goal.returns-in_err-subscription-clause-text
returns-in_err-subscription-clause-text g c =
    let r = err_from_is_err_and c.from_residual.result c.from_residual.ensures.1 in
    followed_as c.args.place.now c.args.count c.args.replica.now c.args.replica.now c.from_residual.result c.in_err-subscription.field-0.0 c.args.lines.now _ _ _ _ _ _ (r.1 ∙ ap (λ (x : SyncEnd). Err x) r.2)
    (follow_not c.args.place.now c.args.count c.args.replica.now c.in_err-subscription.field-0.0 c.args.lines.now _ _ _ _ _ c.in_err-subscription.ensures.opens c.requires.none)

pub loop-lines-init : goal.loop-lines-init
loop-lines-init g c = record { following = following_from c.args.place.now c.args.count c.args.replica.now c.in_ok-subscription.subscription c.args.lines.now _ _ _ _ _ c.in_ok-subscription.ensures.opens c.requires.none; kept = refl }

pub next-requires : goal.next-requires
next-requires g c = let l = c.loop-lines.invariant.following.reads in record { going = (l.us, l.content, l.passed, l.on) }

pub returns-in_err-update-clause-text : goal.returns-in_err-update-clause-text
returns-in_err-update-clause-text g c =
    let r = err_from_is_err_and c.from_residual-in_err-update.result c.from_residual-in_err-update.ensures.1 in
    let f = c.loop-lines.invariant.following in
    let l = f.reads in
    followed_as c.args.place.now c.args.count c.args.replica.now c.loop-lines.replica c.from_residual-in_err-update.result c.in_err-update.field-0.0 c.loop-lines.lines _ _ _ _ _ _ (r.1 ∙ ap (λ (x : SyncEnd). Err x) r.2)
    (followed_broken c.args.place.now c.args.count c.args.replica.now c.loop-lines.subscription.current c.next.result c.in_err-update.field-0.0 c.loop-lines.subscription.stream c.next.new.self c.loop-lines.replica c.loop-lines.lines
    _ (g.K.Source.intake c.loop-lines.link) _ _ (g.K.Sink.outflow c.loop-lines.link) _ _ _ f c.loop-lines-test.true (c.next.ensures.hears l.us l.content l.passed l.on) c.next.ensures.kind c.in_err-update.ensures.heard)

pub returns-in_default-clause-text : goal.returns-in_default-clause-text
returns-in_default-clause-text g c =
    let f = c.loop-lines.invariant.following in
    let l = f.reads in
    followed_out c.args.place.now c.args.count c.args.replica.now c.loop-lines.subscription.current c.next.result c.loop-lines.subscription.stream c.next.new.self c.loop-lines.replica c.loop-lines.lines tt
    _ (g.K.Source.intake c.loop-lines.link) _ _ (g.K.Sink.outflow c.loop-lines.link) _ _ _ f c.loop-lines-test.true (c.next.ensures.hears l.us l.content l.passed l.on) c.next.ensures.kind
    (none_heard c.next.result c.in_ok-update.field-0 c.in_default.is c.in_ok-update.ensures.heard)

pub returns-in_err-learn_and_print-clause-text : goal.returns-in_err-learn_and_print-clause-text
returns-in_err-learn_and_print-clause-text g c =
    let r = err_from_is_err_and c.from_residual-in_err-learn_and_print.result c.from_residual-in_err-learn_and_print.ensures.1 in
    let f = c.loop-lines.invariant.following in
    let l = f.reads in
    followed_as c.args.place.now c.args.count c.args.replica.now c.learn_and_print.new.replica c.from_residual-in_err-learn_and_print.result c.in_err-learn_and_print.field-0.0 c.loop-lines.lines _ _ _ _ _ _ (r.1 ∙ ap (λ (x : SyncEnd). Err x) r.2)
    (followed_stopped c.args.place.now c.args.count c.args.replica.now c.loop-lines.subscription.current c.in-Some.update c.in_err-learn_and_print.field-0.0 c.loop-lines.subscription.stream c.next.new.self c.loop-lines.replica c.learn_and_print.new.replica c.loop-lines.lines
    _ (g.K.Source.intake c.loop-lines.link) _ _ (g.K.Sink.outflow c.loop-lines.link) _ _ (g.O.Sink.outflow c.loop-lines.out) _ f c.loop-lines-test.true
    (next_update c.next.result c.in-Some.update c.in_ok-update.field-0 _ _ l.us l.content l.passed _ _ _ _ c.in-Some.is c.in_ok-update.ensures.heard (c.next.ensures.hears l.us l.content l.passed l.on)) c.next.ensures.kind c.in_err-learn_and_print.ensures.learns)

pub loop-lines-preserved : goal.loop-lines-preserved
loop-lines-preserved g c =
    let f = c.loop-lines.invariant.following in
    let l = f.reads in
    record {
      following = following_on c.args.place.now c.args.count c.args.replica.now c.loop-lines.subscription.current c.in-Some.update c.loop-lines.subscription.stream c.next.new.self c.loop-lines.replica c.learn_and_print.new.replica c.loop-lines.lines c.in_ok-learn_and_print.field-0
          _ (g.K.Source.intake c.loop-lines.link) _ _ (g.K.Sink.outflow c.loop-lines.link) _ _ (g.O.Sink.outflow c.loop-lines.out) _ f c.loop-lines-test.true
          (next_update c.next.result c.in-Some.update c.in_ok-update.field-0 _ _ l.us l.content l.passed _ _ _ _ c.in-Some.is c.in_ok-update.ensures.heard (c.next.ensures.hears l.us l.content l.passed l.on)) c.next.ensures.kind c.in_ok-learn_and_print.ensures.learns;
      kept = c.in_ok-learn_and_print.ensures.kept ∙ c.loop-lines.invariant.kept;
    }

pub returns-clause-text : goal.returns-clause-text
returns-clause-text g c = followed_all c.args.place.now c.args.count c.args.replica.now c.loop-lines.subscription.current c.loop-lines.subscription.stream c.loop-lines.replica c.loop-lines.lines tt _ _ _ _ _ _ c.loop-lines.invariant.following c.loop-lines-test.false
