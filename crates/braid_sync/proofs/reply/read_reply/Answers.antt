use Rattle.std.proofs.Common.{ap, ◌∙◌, Ok, Err}
use Rattle.std.proofs.lemmas.Result.{err_from_is_err_and}
use Rattle.braid_sync.specs.declared.end.SyncEnd.{SyncEnd}
use Rattle.braid_sync.proofs.Replied.{reply_headless, reply_ended, reply_whole, reply_as, body_as}
use Rattle.braid_sync.proofs.reply.read_reply.Goals as goal

pub returns-in_err-head-clause-reads : goal.returns-in_err-head-clause-reads
returns-in_err-head-clause-reads g c =
    let r = err_from_is_err_and c.from_residual.result c.from_residual.ensures.1 in
    reply_as c.from_residual.result c.in_err-head.field-0.0 c.args.wire.now.held c.read_head.new.wire.held _ _ _ _ (r.1 ∙ ap (λ (x : SyncEnd). Err x) r.2)
    (reply_headless c.in_err-head.field-0.0 c.args.wire.now.held c.read_head.new.wire.held _ _ _ _ c.in_err-head.ensures.reads)

pub returns-in_err-pass_body-clause-reads : goal.returns-in_err-pass_body-clause-reads
returns-in_err-pass_body-clause-reads g c =
    let r = err_from_is_err_and c.from_residual-in_err-pass_body.result c.from_residual-in_err-pass_body.ensures.1 in
    reply_as c.from_residual-in_err-pass_body.result c.in_err-pass_body.field-0.0 c.args.wire.now.held c.pass_body.new.wire.held _ _ _ _ (r.1 ∙ ap (λ (x : SyncEnd). Err x) r.2)
    (reply_ended c.in_err-pass_body.field-0.0 c.in_ok-head.head c.args.wire.now.held c.read_head.new.wire.held c.pass_body.new.wire.held _ (g.K.Source.intake c.read_head.new.link) _ _ (g.K.Sink.outflow c.read_head.new.link) _
    c.in_ok-head.ensures.reads (body_as (Err c.in_err-pass_body.field-0.0) _ _ _ _ _ _ _ _ c.new-body.ensures.kind c.in_err-pass_body.ensures.passes))

pub returns-clause-reads : goal.returns-clause-reads
returns-clause-reads g c =
    reply_whole c.in_ok-pass_body.field-0 c.in_ok-head.head c.as_u16.result c.args.wire.now.held c.read_head.new.wire.held c.pass_body.new.wire.held _ (g.K.Source.intake c.read_head.new.link) _ _ (g.K.Sink.outflow c.read_head.new.link) _
    c.as_u16.ensures.value c.in_ok-head.ensures.reads (body_as (Ok c.in_ok-pass_body.field-0) _ _ _ _ _ _ _ _ c.new-body.ensures.kind c.in_ok-pass_body.ensures.passes)
