use Rattle.std.proofs.Common.{ℕ, List, ap, subst, ◌∙◌, Err}
use Rattle.std.proofs.lemmas.Result.{err_from_is_err_and}
use Rattle.braid_io.specs.Outside.{WritesPart, WritesAll}
use Rattle.braid_sync.specs.declared.end.SyncEnd.{SyncEnd}
use Rattle.braid_sync.specs.declared.end.SyncEnd.TheVariants as ends
use Rattle.braid_sync.proofs.Put.{head_is, no_head, put_as, put_unmade, put_unwritten, put_unanswered, put_refused, put_taken, acked_first}
use Rattle.braid_sync.proofs.post.post_next.Goals as goal

pub unreachable-requires : goal.unreachable-requires
unreachable-requires g c = no_head c.args.replica.now c.requires.some c.in_default.ensures.value

pub returns-in_err-id-clause-posts : goal.returns-in_err-id-clause-posts
returns-in_err-id-clause-posts g c =
    let r = err_from_is_err_and c.from_residual.result c.from_residual.ensures.1 in
    let u = c.in-Some.update.now in
    put_as c.args.place.now c.args.replica.now c.args.replica.now c.from_residual.result ends.Memory c.args.wire.now.held c.args.wire.now _ _ _ _ (r.1 ∙ ap (λ (x : SyncEnd). Err x) r.2)
    (put_unmade c.args.place.now c.args.replica.now u c.args.wire.now.held c.args.wire.now _ _ (head_is c.args.replica.now u c.in-Some.ensures.value))

pub returns-in_err-request-clause-posts : goal.returns-in_err-request-clause-posts
returns-in_err-request-clause-posts g c =
    let r = err_from_is_err_and c.from_residual-in_err-request.result c.from_residual-in_err-request.ensures.1 in
    let u = c.in-Some.update.now in
    put_as c.args.place.now c.args.replica.now c.args.replica.now c.from_residual-in_err-request.result ends.Memory c.args.wire.now.held c.args.wire.now _ _ _ _ (r.1 ∙ ap (λ (x : SyncEnd). Err x) r.2)
    (put_unmade c.args.place.now c.args.replica.now u c.args.wire.now.held c.args.wire.now _ _ (head_is c.args.replica.now u c.in-Some.ensures.value))

pub returns-in_err-send-clause-posts : goal.returns-in_err-send-clause-posts
returns-in_err-send-clause-posts g c =
    let r = err_from_is_err_and c.from_residual-in_err-send.result c.from_residual-in_err-send.ensures.1 in
    let u = c.in-Some.update.now in
    let w = c.in_err-send.ensures.err in
    put_as c.args.place.now c.args.replica.now c.args.replica.now c.from_residual-in_err-send.result ends.WriteFault c.args.wire.now.held c.args.wire.now _ _ _ _ (r.1 ∙ ap (λ (x : SyncEnd). Err x) (r.2 ∙ w.0))
    (put_unwritten c.args.place.now c.args.replica.now u c.args.wire.now _ _ _ _ (head_is c.args.replica.now u c.in-Some.ensures.value)
    (subst (λ (t : List ℕ). WritesPart t (g.K.Sink.outflow c.args.link.now) (g.K.Sink.outflow c.send.new.link)) c.in_ok-request.ensures.ok w.1) c.in_err-send.ensures.kept)

pub returns-in_err-status-clause-posts : goal.returns-in_err-status-clause-posts
returns-in_err-status-clause-posts g c =
    let r = err_from_is_err_and c.from_residual-in_err-status.result c.from_residual-in_err-status.ensures.1 in
    let u = c.in-Some.update.now in
    put_as c.args.place.now c.args.replica.now c.args.replica.now c.from_residual-in_err-status.result c.in_err-status.field-0.0 c.args.wire.now.held c.read_reply.new.wire _ _ _ _ (r.1 ∙ ap (λ (x : SyncEnd). Err x) r.2)
    (put_unanswered c.args.place.now c.args.replica.now u c.in_err-status.field-0.0 c.args.wire.now.held c.read_reply.new.wire _ (g.K.Source.intake c.send.new.link) _ _ (g.K.Sink.outflow c.send.new.link) _ (head_is c.args.replica.now u c.in-Some.ensures.value)
    (subst (λ (t : List ℕ). WritesAll t (g.K.Sink.outflow c.args.link.now) (g.K.Sink.outflow c.send.new.link)) c.in_ok-request.ensures.ok c.in_ok-send.ensures.ok) c.in_ok-send.ensures.kept c.in_err-status.ensures.reads)

pub returns-then-status-ne-TAKEN-clause-posts : goal.returns-then-status-ne-TAKEN-clause-posts
returns-then-status-ne-TAKEN-clause-posts g c =
    let u = c.in-Some.update.now in
    put_refused c.args.place.now c.args.replica.now u c.in_ok-status.status c.args.wire.now.held c.read_reply.new.wire _ (g.K.Source.intake c.send.new.link) _ _ (g.K.Sink.outflow c.send.new.link) _ (head_is c.args.replica.now u c.in-Some.ensures.value)
    (subst (λ (t : List ℕ). WritesAll t (g.K.Sink.outflow c.args.link.now) (g.K.Sink.outflow c.send.new.link)) c.in_ok-request.ensures.ok c.in_ok-send.ensures.ok) c.in_ok-send.ensures.kept c.in_ok-status.ensures.reads c.if-status-ne-TAKEN.true

pub returns-clause-posts : goal.returns-clause-posts
returns-clause-posts g c =
    let u = c.in-Some.update.now in
    let h = head_is c.args.replica.now u c.in-Some.ensures.value in
    put_taken c.args.place.now c.args.replica.now c.acked-moved.new.self u tt c.in_ok-status.status c.args.wire.now.held c.read_reply.new.wire _ (g.K.Source.intake c.send.new.link) _ _ (g.K.Sink.outflow c.send.new.link) _ h
    (subst (λ (t : List ℕ). WritesAll t (g.K.Sink.outflow c.args.link.now) (g.K.Sink.outflow c.send.new.link)) c.in_ok-request.ensures.ok c.in_ok-send.ensures.ok) c.in_ok-send.ensures.kept c.in_ok-status.ensures.reads c.if-status-ne-TAKEN.false
    (acked_first c.args.replica.now c.acked-moved.new.self u c.in_ok-id.id h (c.in_ok-id.ensures.ok ∙ c.id.ensures.value) c.acked-moved.ensures.moved)
