use Rattle.std.proofs.Common.{ap, ◌∙◌, Err, sym, length}
use Rattle.std.proofs.lemmas.List.{nil_from_length}
use Rattle.std.proofs.lemmas.Result.{err_from_is_err_and}
use Rattle.braid_sync.specs.declared.end.SyncEnd.{SyncEnd}
use Rattle.braid_sync.proofs.Synced.{syncing_from, synced_short, syncing_on, synced_then, synced_whole, falls_with, sync_as}
use Rattle.braid_sync.proofs.syncing.sync_all.Goals as goal

pub returns-in_err-subscribe_over : goal.returns-in_err-subscribe_over
returns-in_err-subscribe_over g c =
    let r = err_from_is_err_and c.from_residual.result c.from_residual.ensures.1 in
    record {
      text = sync_as c.args.place.now c.args.replica.now c.subscribe_over.new.replica c.from_residual.result c.in_err-subscribe_over.field-0.0 _ _ (r.1 ∙ ap (λ (x : SyncEnd). Err x) r.2)
          (synced_short c.args.place.now c.args.replica.now c.subscribe_over.new.replica c.in_err-subscribe_over.field-0.0 _ _ c.in_err-subscribe_over.ensures.text);
    }

pub posting-init : goal.posting-init
posting-init g c = syncing_from c.args.place.now c.args.replica.now c.subscribe_over.new.replica c.in_ok-subscribe_over.field-0 _ _ c.in_ok-subscribe_over.ensures.text

pub returns-then-unsent-eq0 : goal.returns-then-unsent-eq0
returns-then-unsent-eq0 g c =
    record { text = synced_whole c.args.place.now c.args.replica.now c.posting.replica tt _ _ c.posting.invariant (nil_from_length c.posting.replica.unsent (sym c.unsent.ensures.count ∙ c.if-unsent-eq0.true)) }

pub post_over-requires-clause-some : goal.post_over-requires-clause-some
post_over-requires-clause-some g c = λ κs outlives e. c.if-unsent-eq0.false (c.unsent.ensures.count ∙ ap length e)

pub returns-in_err-post_over : goal.returns-in_err-post_over
returns-in_err-post_over g c =
    let r = err_from_is_err_and c.from_residual-in_err-post_over.result c.from_residual-in_err-post_over.ensures.1 in
    record {
      text = sync_as c.args.place.now c.args.replica.now c.post_over.new.replica c.from_residual-in_err-post_over.result c.in_err-post_over.field-0.0 _ _ (r.1 ∙ ap (λ (x : SyncEnd). Err x) r.2)
          (synced_then c.args.place.now c.args.replica.now c.posting.replica c.post_over.new.replica c.in_err-post_over.field-0.0 _ (g.D.Dialer.dialing c.posting.dialer) _ c.posting.invariant
          (λ e. c.if-unsent-eq0.false (c.unsent.ensures.count ∙ ap length e)) c.in_err-post_over.ensures.text);
    }

pub posting-preserved : goal.posting-preserved
posting-preserved g c =
    syncing_on c.args.place.now c.args.replica.now c.posting.replica c.post_over.new.replica c.in_ok-post_over.field-0 _ (g.D.Dialer.dialing c.posting.dialer) _ c.posting.invariant
    (λ e. c.if-unsent-eq0.false (c.unsent.ensures.count ∙ ap length e)) c.in_ok-post_over.ensures.text

pub posting-smaller : goal.posting-smaller
posting-smaller g c =
    falls_with c.args.place.now c.posting.replica c.post_over.new.replica c.in_ok-post_over.field-0 _ _ (λ e. c.if-unsent-eq0.false (c.unsent.ensures.count ∙ ap length e)) c.in_ok-post_over.ensures.text
