use Rattle.std.proofs.Common.{ap, ◌∙◌, Err, refl, length}
use Rattle.std.proofs.lemmas.Bool.{false≢true}
use Rattle.std.proofs.lemmas.Result.{err_from_is_err_and}
use Rattle.braid_stream.specs.Readers.{most_bytes}
use Rattle.braid_sync.specs.declared.end.SyncEnd.{SyncEnd}
use Rattle.braid_sync.proofs.Subscribed.{subscribed_not, subscribed_as, catching_from, caught, fell, refused, catches_on, cost_falls, held_within, update_heard, next_update}
use Rattle.braid_sync.proofs.subscribe.subscribe.Goals as goal

pub returns-in_err-subscription : goal.returns-in_err-subscription
returns-in_err-subscription g c =
    let r = err_from_is_err_and c.from_residual.result c.from_residual.ensures.1 in
    record {
      text = subscribed_as c.args.place.now c.args.replica.now c.args.replica.now c.from_residual.result c.in_err-subscription.field-0.0 _ _ _ _ (r.1 ∙ ap (λ (x : SyncEnd). Err x) r.2)
          (subscribed_not c.args.place.now c.args.replica.now c.in_err-subscription.field-0.0 _ _ _ _ c.in_err-subscription.ensures.opens);
    }

pub learning-init : goal.learning-init
learning-init g c = catching_from c.args.place.now c.args.replica.now c.in_ok-subscription.subscription _ _ _ _ c.in_ok-subscription.ensures.opens

pub returns-then-holds_from : goal.returns-then-holds_from
returns-then-holds_from g c =
    record { text = caught c.args.place.now c.args.replica.now c.learning.subscription.current c.learning.subscription.stream c.learning.replica _ _ _ _ c.learning.invariant (c.if-holds_from.ensures.holds.0 refl) }

pub next-requires : goal.next-requires
next-requires g c = record { going = (c.learning.invariant.reads.us, c.learning.invariant.reads.content, c.learning.invariant.reads.passed, c.learning.invariant.reads.on) }

pub returns-in_err-update : goal.returns-in_err-update
returns-in_err-update g c =
    let r = err_from_is_err_and c.from_residual-in_err-update.result c.from_residual-in_err-update.ensures.1 in
    let l = c.learning.invariant.reads in
    record {
      text = subscribed_as c.args.place.now c.args.replica.now c.learning.replica c.from_residual-in_err-update.result c.in_err-update.field-0.0 _ _ _ _ (r.1 ∙ ap (λ (x : SyncEnd). Err x) r.2)
          (fell c.args.place.now c.args.replica.now c.learning.subscription.current c.next.result c.in_err-update.field-0.0 c.learning.subscription.stream c.next.new.self c.learning.replica _ (g.K.Source.intake c.learning.link) _ _ (g.K.Sink.outflow c.learning.link) _
          c.learning.invariant (c.next.ensures.hears l.us l.content l.passed l.on) c.next.ensures.kind c.in_err-update.ensures.heard (λ v. false≢true (c.if-holds_from.ensures.holds.1 v)));
    }

pub returns-in_err-_taken : goal.returns-in_err-_taken
returns-in_err-_taken g c =
    let r = err_from_is_err_and c.from_residual-in_err-_taken.result c.from_residual-in_err-_taken.ensures.1 in
    let l = c.learning.invariant.reads in
    record {
      text = subscribed_as c.args.place.now c.args.replica.now c.take.new.replica c.from_residual-in_err-_taken.result c.in_err-_taken.field-0.0 _ _ _ _ (r.1 ∙ ap (λ (x : SyncEnd). Err x) r.2)
          (refused c.args.place.now c.args.replica.now c.learning.subscription.current c.in_ok-update.update c.in_err-_taken.field-0.0 c.learning.subscription.stream c.next.new.self c.learning.replica c.take.new.replica _ (g.K.Source.intake c.learning.link) _ _ (g.K.Sink.outflow c.learning.link) _
          c.learning.invariant (next_update c.next.result c.in_ok-update.update _ _ l.us l.content l.passed _ _ _ _ c.in_ok-update.ensures.heard (c.next.ensures.hears l.us l.content l.passed l.on)) c.next.ensures.kind c.in_err-_taken.ensures.takes (λ v. false≢true (c.if-holds_from.ensures.holds.1 v)));
    }

pub learning-preserved : goal.learning-preserved
learning-preserved g c =
    let l = c.learning.invariant.reads in
    catches_on c.args.place.now c.args.replica.now c.learning.subscription.current c.in_ok-update.update c.in_ok-_taken._taken c.learning.subscription.stream c.next.new.self c.learning.replica c.take.new.replica _ (g.K.Source.intake c.learning.link) _ _ (g.K.Sink.outflow c.learning.link) _
    c.learning.invariant (next_update c.next.result c.in_ok-update.update _ _ l.us l.content l.passed _ _ _ _ c.in_ok-update.ensures.heard (c.next.ensures.hears l.us l.content l.passed l.on)) c.next.ensures.kind c.in_ok-_taken.ensures.takes (λ v. false≢true (c.if-holds_from.ensures.holds.1 v))

pub learning-smaller : goal.learning-smaller
learning-smaller g c =
    let l = c.learning.invariant.reads in
    let n = next_update c.next.result c.in_ok-update.update _ _ l.us l.content l.passed _ _ _ _ c.in_ok-update.ensures.heard (c.next.ensures.hears l.us l.content l.passed l.on) in
    let cost = c.next.ensures.costs c.in_ok-update.update (update_heard c.next.result c.in_ok-update.update c.in_ok-update.ensures.heard) in
    cost_falls most_bytes c.learning.subscription.stream.reader.read c.next.new.self.reader.read (length c.learning.subscription.stream.reader.held) (length c.next.new.self.reader.held) cost.0
    (held_within _ _ _ n.hears.0.has) cost.1
