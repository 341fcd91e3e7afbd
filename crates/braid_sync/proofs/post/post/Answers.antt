use Rattle.std.proofs.Common.{ap, ◌∙◌, Err, sym, inl, inr, length, arith}
use Rattle.std.proofs.lemmas.List.{nil_from_length}
use Rattle.std.proofs.lemmas.Result.{err_from_is_err_and}
use Rattle.braid_http.specs.Asks.{WireView}
use Rattle.braid_sync.specs.declared.end.SyncEnd.{SyncEnd}
use Rattle.braid_sync.proofs.Posted.{posting_none, posted_all, posting_more, posting_ends, posted_as}
use Rattle.braid_sync.proofs.post.post.Goals as goal

pub loop-init : goal.loop-init
loop-init g c = posting_none c.args.place.now c.args.replica.now _ _ _ (ap (λ (w : WireView). w.held) c.new-wire.ensures.value) (ap (λ (w : WireView). w.over) c.new-wire.ensures.value)

pub returns-then-unsent-eq0 : goal.returns-then-unsent-eq0
returns-then-unsent-eq0 g c =
    record { text = posted_all c.args.place.now c.args.replica.now c.loop.replica c.loop.wire c.loop.counter _ _ _ _ c.loop.invariant c.loop.auto.counter-end (inl (nil_from_length c.loop.replica.unsent (sym c.unsent.ensures.count ∙ c.if-unsent-eq0.true))) }

pub post_next-requires : goal.post_next-requires
post_next-requires g c = record { some = λ e. c.if-unsent-eq0.false (c.unsent.ensures.count ∙ ap length e); going = c.loop.invariant.going }

pub returns-in_err-post_next : goal.returns-in_err-post_next
returns-in_err-post_next g c =
    let r = err_from_is_err_and c.from_residual.result c.from_residual.ensures.1 in
    record {
      text = posted_as c.args.place.now c.args.replica.now c.post_next.new.replica c.from_residual.result c.in_err-post_next.field-0.0 _ _ _ _ (r.1 ∙ ap (λ (x : SyncEnd). Err x) r.2)
          (posting_ends c.args.place.now c.args.replica.now c.loop.replica c.post_next.new.replica c.loop.wire c.post_next.new.wire c.loop.counter c.in_err-post_next.field-0.0 _ (g.K.Source.intake c.loop.link) _ _ (g.K.Sink.outflow c.loop.link) _
          c.loop.invariant c.loop-test.true c.in_err-post_next.ensures.posts);
    }

pub loop-preserved : goal.loop-preserved
loop-preserved g c =
    posting_more c.args.place.now c.args.replica.now c.loop.replica c.post_next.new.replica c.loop.wire c.post_next.new.wire c.loop.counter c.in_ok-post_next.field-0 _ (g.K.Source.intake c.loop.link) _ _ (g.K.Sink.outflow c.loop.link) _
    c.loop.invariant c.in_ok-post_next.ensures.posts c.in_ok-post_next.ensures.going

pub returns : goal.returns
returns g c =
    record { text = posted_all c.args.place.now c.args.replica.now c.loop.replica c.loop.wire c.loop.counter _ _ _ _ c.loop.invariant c.loop.auto.counter-end (inr (omega (arith, c.loop-test.false, c.loop.auto.counter-end))) }
